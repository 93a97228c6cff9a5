use Rattle.std.proofs.Common.{◌≡◌, ◌<◌, ◌+◌, ◌*◌, ℕ, false, not, length, get_or, map, ap, ◌∙◌, arith}
use Rattle.std.specs.Prelude.{None, is_some}
use Rattle.bsi_bits.specs.Packed.{bit_of}
use Rattle.bsi_digits.specs.Comparisons.{number_or_zero}
use Rattle.bsi_slices.specs.Decisions.{as_expected, relates}
use Rattle.bsi_columns.specs.Decomposed.{entries_of}
use Rattle.bsi_columns.proofs.SpanAnswers.{row_answer, answer_turned, answer_narrowed}
use Rattle.bsi_columns.proofs.decomposed.Decomposed.select_span.Goals as goal
use Rattle.bsi_columns.proofs.decomposed.Decomposed.select_span.Goals.{then-not-test, else-not-test}

pub returns : goal.returns
returns g c = λ p below row.
    let inside = c.self.inside in
    let not_null = inside.not_null.bits in
    let entries = entries_of inside.bases not_null (map g.E.Encoding.digits inside.components.items) in
    let at = c.args.at in
    let test = λ (x : ℕ). relates c.args.test.relation x c.args.test.constant in
    let in_row : 64 * at + p < length entries = rw (← c.self.view_is) at row in
    let number : ℕ = number_or_zero (get_or entries (64 * at + p) None) in
    let narrowed : bit_of c.find_span.new.span p ≡ test number = rw (← c.self.view_is) at (c.find_span.ensures p below row) in
    let selection : bit_of c.if-not-test.span p ≡ as_expected c.args.test.expected (test number) =
    elim c.if-not-test.branch [
      | then-not-test w ↦
          answer_turned c.args.test.expected (bit_of c.if-not-test.span p) (test number) w.if-not-test.true
          (ap (λ ws. bit_of ws p) w.span-is ∙ w.flip.ensures.bits p (omega (arith, c.find_span.auto.span)) ∙ ap not narrowed)
      | else-not-test w ↦
          answer_narrowed c.args.test.expected (bit_of c.if-not-test.span p) (test number) w.if-not-test.false
          (ap (λ ws. bit_of ws p) w.span-is ∙ narrowed)
    ] in
    let there : get_or not_null (64 * at + p) false ≡ get_or (map is_some entries) (64 * at + p) false = ap (λ bits. get_or bits (64 * at + p) false) c.self.invariant.0.not_null_is in
    rw (← c.self.view_is)
    (c.and_assign.ensures.bits p (omega (arith, c.if-not-test.auto.span))
    ∙ row_answer test c.args.test.expected entries (64 * at + p) (bit_of c.if-not-test.span p) (get_or not_null (64 * at + p) false) in_row selection there)
