use Rattle.std.proofs.Common.{◌≡◌, ℕ, ◌+◌, ◌*◌, ◌<◌, Bool, false, ◌&&◌, length, get_or, inl, inr, ap, ◌∙◌, arith, subst}
use Rattle.std.specs.Prelude.{nat_eq, Some}
use Rattle.std.proofs.lemmas.Bool.{cases_lt}
use Rattle.std.proofs.lemmas.List.{get_or_past}
use Rattle.bsi_bits.specs.Packed.{bit_of}
use Rattle.bsi_columns.specs.SpanExtremes.{AnswersExtreme}
use Rattle.bsi_columns.proofs.ExtremeDigits.{extreme_member, extreme_first, extreme_past, narrowed_inside, narrowed_outside, narrowed_some, there_within}
use Rattle.bsi_columns.proofs.decomposed.extremes.and_extreme.Goals as goal

-- the rows of the digit, of which those past the last one are cleared with the nulls
pub returns-clause-digit : goal.returns-clause-digit
returns-clause-digit g c =
    let digits = g.E.Encoding.digits c.args.component.now in
    let not_null = c.args.not_null.now.bits in
    let at = c.args.at in
    let d = c.in_ok-digit.digit in
    let old : ℕ → Bool = bit_of c.args.span.now in
    let digit : ℕ → ℕ = λ p. get_or digits (64 * at + p) 0 in
    let n : ℕ = 64 * length c.args.span.now in
    let answered : AnswersExtreme c.args.extreme c.args.bound old digit n (Some d) = c.in_ok-digit.ensures in
    let narrowed = c.eq_span.ensures c.requires.spans in
    let rows_are : (p : ℕ) → p < n → bit_of c.and_assign.new.span p ≡ (old p && nat_eq (digit p) d) = λ p below.
    elim (cases_lt (64 * at + p) (length digits)) [
      | inl inside ↦
          narrowed_inside (old p) (get_or not_null (64 * at + p) false) (nat_eq (digit p) d) (bit_of c.and_assign.new.span p)
          (c.and_assign.ensures.bits p (omega (arith, below, c.eq_span.auto.span)) ∙ ap (λ b. b && get_or not_null (64 * at + p) false) (narrowed p below inside))
          (c.requires.rows p below)
      | inr outside ↦
          narrowed_outside (old p) (get_or not_null (64 * at + p) false) (nat_eq (digit p) d) (bit_of c.and_assign.new.span p) (bit_of c.eq_span.new.span p)
          (c.and_assign.ensures.bits p (omega (arith, below, c.eq_span.auto.span)))
          (get_or_past not_null (64 * at + p) false (omega (arith, outside, c.requires.same)))
          (c.requires.rows p below)
    ] in
    record {
      rows_are = rows_are;
      some = narrowed_some old (bit_of c.and_assign.new.span) digit n d rows_are (extreme_member c.args.extreme c.args.bound old digit n d answered);
      first = extreme_first c.args.extreme c.args.bound old digit n d answered;
    }

pub returns-in_err-digit-clause-digit : goal.returns-in_err-digit-clause-digit
returns-in_err-digit-clause-digit g c =
    rw c.from_residual.ensures
    (extreme_past c.args.extreme c.args.bound (bit_of c.args.span.now) (λ p. get_or (g.E.Encoding.digits c.args.component.now) (64 * c.args.at + p) 0) (64 * length c.args.span.now)
    c.in_err-digit.ensures)

pub extreme_digit-requires-clause-rows : goal.extreme_digit-requires-clause-rows
extreme_digit-requires-clause-rows g c = λ p below there.
    let row : ℕ = 64 * c.args.at + p in
    let Within : ℕ → Type 0 = λ n. row < n in
    subst Within c.requires.same (there_within c.args.not_null.now.bits row (c.requires.rows p below there))
