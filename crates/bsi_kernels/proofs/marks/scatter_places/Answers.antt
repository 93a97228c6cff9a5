use Rattle.std.proofs.Common.{arith}
use Rattle.bsi_kernels.proofs.Decoding.{both_spelled, eight_more}
use Rattle.bsi_kernels.proofs.marks.scatter_places.Goals as goal

pub eights-preserved : goal.eights-preserved
eights-preserved c =
    eight_more c.decode_places-low.result c.decode_places-high.result c.args.words.now c.eights.words c.eights.h (omega arith) (omega (arith, c.eights-test.true)) c.eights.invariant

pub returns-clause-decoded : goal.returns-clause-decoded
returns-clause-decoded c = λ j k within near.
    both_spelled c.args.places.now c.decode_places-low.result c.decode_places-high.result c.rest.words j k (omega arith) (omega (arith, c.requires.few, c.rest.invariant.long)) near
    c.decode_places-low.ensures c.decode_places-high.ensures (c.rest.invariant.done j (omega (arith, c.rest-test.false)))
