use Rattle.std.proofs.Common.{◌+◌, ◌*◌, length, refl, rules}
use Rattle.std.specs.Prelude.{slice_index}
use Rattle.bsi_bits.specs.Packed.{bit_of}
use Rattle.bsi_components.proofs.ExtremeRows.{greatest_here}
use Rattle.bsi_components.proofs.range.reads.RangeReads.greatest_in_span.Goals as goal

pub returns-then-not-has_above : goal.returns-then-not-has_above
returns-then-not-has_above c = search rules

-- no row has a further digit
pub returns-then-not-has_above-2 : goal.returns-then-not-has_above-2
returns-then-not-has_above-2 c =
    greatest_here c.args.bound (bit_of c.args.span.now) (λ p. slice_index c.args.component.now.digits (64 * c.args.at + p)) (64 * length c.args.span.now) c.digits.digit
    c.digits.auto.digit c.digits.invariant (c.if-not-has_above-2.ensures.none refl)

pub digits-preserved : goal.digits-preserved
digits-preserved c = search rules

-- a row has the greatest digit of the base
pub returns : goal.returns
returns c =
    greatest_here c.args.bound (bit_of c.args.span.now) (λ p. slice_index c.args.component.now.digits (64 * c.args.at + p)) (64 * length c.args.span.now) c.top-top.result
    (search rules) (search rules) (λ p below set. c.top-top.ensures.most (64 * c.args.at + p))
