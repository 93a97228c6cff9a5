use Rattle.std.proofs.Common.{◌≡◌, ℕ, ◌+◌, ◌*◌, ◌&&◌, false, length, get_or, map, replicate, inl, inr, ap, ap₂, ◌∙◌, arith}
use Rattle.std.specs.Prelude.{None, is_some}
use Rattle.std.proofs.lemmas.Bool.{cases_lt}
use Rattle.std.proofs.lemmas.List.{get_or_past, length-take}
use Rattle.bsi_bits.specs.Packed.{bit_of}
use Rattle.bsi_digits.specs.Comparisons.{number_or_zero}
use Rattle.bsi_slices.specs.Decisions.{as_expected, relates}
use Rattle.bsi_columns.specs.Decomposed.{entries_of}
use Rattle.bsi_columns.proofs.Answering.{and_assoc, cut_answer, cut_past}
use Rattle.bsi_columns.proofs.EntryReads.{map_read}
use Rattle.bsi_columns.proofs.decomposed.Decomposed.and_test.Goals as goal

-- the rows of the span that pass, found in words of their own
pub returns : goal.returns
returns g c =
    let inside = c.self.inside in
    let not_null = inside.not_null.bits in
    let entries = entries_of inside.bases not_null (map g.E.Encoding.digits inside.components.items) in
    let span = c.args.span.now in
    let test = λ (x : ℕ). relates c.args.test.relation x c.args.test.constant in
    let expected = c.args.test.expected in
    let size : length c.find_span.new.span ≡ length span =
    omega (arith, c.find_span.auto.span, c.requires.few, length-take {A = ℕ} (length span) (replicate 1024 0)) in
    let selection = rw (← c.self.view_is) at c.find_span.ensures in
    rw (← c.self.view_is)
    (λ p below.
    let r = 64 * c.args.at + p in
    let was = bit_of span p in
    let entry = get_or entries r None in
    let there : get_or not_null r false ≡ is_some entry = ap (λ bits. get_or bits r false) c.self.invariant.0.not_null_is ∙ map_read is_some entries r in
    c.and_assign.ensures.bits p (omega (arith, c.and_expected.auto.span, below))
    ∙ ap₂ ◌&&◌ (c.and_expected.ensures.bits p below) there
    ∙ elim (cases_lt r (length entries)) [
      | inl row ↦
          ap (λ b. (was && as_expected expected b) && is_some entry) (selection p (omega (arith, size, below)) row)
          ∙ and_assoc was (as_expected expected (test (number_or_zero entry))) (is_some entry)
          ∙ ap (◌&&◌ was) (cut_answer test expected entry)
      | inr past ↦ cut_past test expected was (was && as_expected expected (bit_of c.find_span.new.span p)) entry (get_or_past entries r None past)
    ])
