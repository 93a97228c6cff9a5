use Rattle.std.proofs.Common.{ℕ, ◌≡◌, ◌+◌, ◌*◌, Bool, true, false, ◌&&◌, not, nat_lt, ◌∙◌, ap, sym, arith}
use Rattle.std.specs.Prelude.{◌==◌, nat_eq, nat_le}
use Rattle.std.proofs.lemmas.Bool.Decides.{nat_tests}
use Rattle.bsi_bits.specs.Packed.{bit_of}
use Rattle.bsi_slices.specs.Decisions.{as_expected, relates}
use Rattle.bsi_slices.specs.Slices.{number}
use Rattle.bsi_kernels.proofs.WordSpans.{cut_bit, turned}
use Rattle.bsi_slices.proofs.slices.compare.tested_span.Goals.{in-Equal, in-AtMost}
use Rattle.bsi_slices.proofs.slices.compare.tested_span.Goals as goal

equal_expected : (expected : Bool) (c x : ℕ) → turned (not expected) (c == x) ≡ as_expected expected (nat_eq x c)
equal_expected true c x = grind (arith, nat_tests)
equal_expected false c x = grind (arith, nat_tests)

at_most_expected : (expected : Bool) (c x : ℕ) → turned expected (nat_lt c x) ≡ as_expected expected (nat_le x c)
at_most_expected true c x = grind (arith, nat_tests)
at_most_expected false c x = grind (arith, nat_tests)

-- the rows that are equal to the constant, or those that are not above it
pub returns-clause-bits : goal.returns-clause-bits
returns-clause-bits g c = λ p below.
    let test = c.args.test in
    let x : ℕ = number c.args.slices.now (64 * c.args.at + p) in
    elim c.match-test.branch [
      | in-Equal w ↦
          ap (λ ws. bit_of ws p) (w.result-is ∙ w.and_maybe_not.ensures)
          ∙ cut_bit g.row.N c.args.span w.equal_span.result c.fits-span.0 w.equal_span.ensures.long (not test.expected) w.equal_span.ensures.fits p below
          ∙ ap (λ b. bit_of c.args.span p && turned (not test.expected) b) (w.equal_span.ensures.bits p below)
          ∙ ap (λ b. bit_of c.args.span p && b) (equal_expected test.expected test.constant x ∙ ap (λ r. as_expected test.expected (relates r x test.constant)) (sym w.in-Equal.is))
      | in-AtMost w ↦
          ap (λ ws. bit_of ws p) (w.result-is ∙ w.and_maybe_not-in-AtMost.ensures)
          ∙ cut_bit g.row.N c.args.span w.above_span.result c.fits-span.0 w.above_span.ensures.long test.expected w.above_span.ensures.fits p below
          ∙ ap (λ b. bit_of c.args.span p && turned test.expected b) (w.above_span.ensures.bits p below)
          ∙ ap (λ b. bit_of c.args.span p && b) (at_most_expected test.expected test.constant x ∙ ap (λ r. as_expected test.expected (relates r x test.constant)) (sym w.in-AtMost.is))
    ]
