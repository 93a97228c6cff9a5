use Rattle.std.proofs.Common.{◌+◌, ◌*◌, length, refl, rules}
use Rattle.std.specs.Prelude.{slice_index}
use Rattle.bsi_bits.specs.Packed.{bit_of}
use Rattle.bsi_components.proofs.ExtremeRows.{least_here, least_next}
use Rattle.bsi_components.proofs.range.reads.RangeReads.least_in_span.Goals as goal

pub returns-then-not-has_upto : goal.returns-then-not-has_upto
returns-then-not-has_upto c = search rules

-- no row has a lower digit
pub returns-then-not-has_upto-2 : goal.returns-then-not-has_upto-2
returns-then-not-has_upto-2 c =
    least_next c.args.bound (bit_of c.args.span.now) (λ p. slice_index c.args.component.now.digits (64 * c.args.at + p)) (64 * length c.args.span.now) c.digits.digit
    c.digits-test.true c.digits.auto.digit c.digits.invariant (c.if-not-has_upto-2.ensures.none refl)

pub digits-preserved : goal.digits-preserved
digits-preserved c = search rules

-- a row has the digit 0
pub returns : goal.returns
returns c =
    least_here c.args.bound (bit_of c.args.span.now) (λ p. slice_index c.args.component.now.digits (64 * c.args.at + p)) (64 * length c.args.span.now) 0
    (search rules) (search rules) (λ p below set. search rules)
