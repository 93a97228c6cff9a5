use Rattle.std.proofs.Common.{◌+◌, ◌*◌, length, get_or}
use Rattle.bsi_bits.specs.Packed.{bit_of}
use Rattle.bsi_components.proofs.ExtremeRows.{greatest_from}
use Rattle.bsi_components.proofs.equality.reads.EqualityReads.greatest_in_span.Goals as goal

-- by the binary places
pub returns-then-places-own_base : goal.returns-then-places-own_base
returns-then-places-own_base c =
    greatest_from c.args.bound (bit_of c.args.span.now) (λ p. get_or c.args.component.now.digits (64 * c.args.at + p) 0) (64 * length c.args.span.now) c.just_below.result c.extreme_in_span.result
    c.just_below.ensures.no_worse c.just_below.ensures.improves c.extreme_in_span.ensures
