use Rattle.std.proofs.Common.{◌≡◌, ℕ, ◌+◌, ◌-◌, ◌*◌, ◌<◌, ◌&&◌, false, length, length-take, get_or, ap, ◌∙◌, subst, arith, ◌≤◌, true, sym, take}
use Rattle.std.specs.Prelude.{min, is_some, None}
use Rattle.std.specs.Option.{option_or}
use Rattle.bsi_bits.specs.Packed.{bit_of}
use Rattle.bsi_columns.specs.Extremes.{has_number, IsExtremeUpto}
use Rattle.std.proofs.lemmas.List.{length-map}
use Rattle.bsi_bits.specs.BitList.{word_count}
use Rattle.bsi_columns.proofs.ExtremeDigits.{both_second}
use Rattle.bsi_columns.proofs.ExtremeRows.{span_more, number_row, extreme_all}
use Rattle.bsi_columns.proofs.decomposed.Decomposed.extreme_in_spans.Goals as goal

pub span-preserved : goal.span-preserved
span-preserved g c =
    let entries = c.args.self.now.entries in
    let selection = c.args.selection.now.bits in
    let len : ℕ = length c.words-len.result.now in
    let at : ℕ = 32 * c.span.k in
    let rows = c.rows_into.new.span in
    let n : ℕ = length rows in
    let from : min at len ≡ at = omega (arith, c.span-test.true, c.div_ceil-k-end.ensures) in
    let long : n ≡ min 32 (len - at) = c.rows_into.ensures.len ∙ length-take c.min.result c.span.buffer ∙ omega (arith, c.min.ensures, c.min.array_long) in
    let to : 64 * at + 64 * n ≡ 64 * min (32 * (c.span.k + 1)) len = omega (arith, long, c.span-test.true, c.div_ceil-k-end.ensures) in
    let bits : (p : ℕ) → p < 64 * n → bit_of rows p ≡ has_number selection entries (64 * at + p) = λ p below.
    c.rows_into.ensures.bits p (omega (arith, below, c.rows_into.ensures.len))
    ∙ ap (λ bs. get_or selection (64 * at + p) false && get_or bs (64 * at + p) false) c.not_null.ensures ∙ number_row selection entries (64 * at + p) in
    let AtPlace : ℕ → Type 0 = λ r. IsExtremeUpto c.args.extreme selection entries (64 * r) c.span.best in
    let AtRow : ℕ → Type 0 = λ r. IsExtremeUpto c.args.extreme selection entries r (option_or c.improve_in_span.result c.span.best) in
    let more = span_more c.args.extreme selection entries (64 * at) (64 * n) (bit_of rows) bits c.span.best c.improve_in_span.result (subst AtPlace from c.span.invariant) c.improve_in_span.ensures in
    rw c.or-best.ensures (subst AtRow to more)

-- no span is left
pub returns : goal.returns
returns g c =
    let len : ℕ = length c.words-len.result.now in
    extreme_all c.args.selection.now.bits c.args.self.now.entries (64 * min (32 * c.span.k) len) c.requires.same
    (omega (arith, c.span-test.false, c.div_ceil-k-end.ensures, c.words-len.ensures.few)) c.args.extreme c.span.best c.span.invariant

pub rows_into-requires-clause-not_null : goal.rows_into-requires-clause-not_null
rows_into-requires-clause-not_null g c =
    let entries = c.args.self.now.entries in
    let selection = c.args.selection.now.bits in
    let len : ℕ = length c.words-len.result.now in
    let even : length selection ≡ length c.not_null.result.now.bits = sym c.requires.same ∙ sym (length-map entries is_some) ∙ sym (ap length c.not_null.ensures) in
    let Within : ℕ → Type 0 = λ n. 32 * c.span.k + length (take c.min.result c.span.buffer) ≤ word_count n in
    let within : Within (length selection) = omega (arith, length-take c.min.result c.span.buffer, c.min.ensures, c.min.array_long, c.span-test.true, c.div_ceil-k-end.ensures, c.words-len.ensures.few) in
    subst Within even within

-- a row that is found has a number
pub improve_in_span-requires-clause-rows : goal.improve_in_span-requires-clause-rows
improve_in_span-requires-clause-rows g c = λ p below there.
    let entries = c.args.self.now.entries in
    let selection = c.args.selection.now.bits in
    let row : ℕ = 64 * (32 * c.span.k) + p in
    let within = subst (λ (n : ℕ). p < 64 * n) c.rows_into.ensures.len below in
    let both : has_number selection entries row ≡ true =
    sym (c.rows_into.ensures.bits p within ∙ ap (λ bs. get_or selection row false && get_or bs row false) c.not_null.ensures ∙ number_row selection entries row) ∙ there in
    both_second (get_or selection row false) (is_some (get_or entries row None)) both
