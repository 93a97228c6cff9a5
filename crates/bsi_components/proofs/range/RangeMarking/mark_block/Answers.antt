use Rattle.std.proofs.Common.{arith}
use Rattle.bsi_kernels.proofs.MarkPlaces.{joined_marks}
use Rattle.bsi_components.proofs.range.RangeMarking.mark_block.Goals as goal

-- each word is joined with those before it
pub returns-clause-marks : goal.returns-clause-marks
returns-clause-marks c =
    joined_marks c.args.base c.args.block.now c.one_hot_digits.new.words c.mark_below.new.words c.requires.few (omega (arith, c.requires.count.owned, c.one_hot_digits.ensures.long))
    c.one_hot_digits.ensures.marks c.mark_below.ensures.long c.mark_below.ensures.unions c.mark_below.ensures.rest
