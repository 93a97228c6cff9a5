use Rattle.std.proofs.Common.{◌*◌, ◌+◌, arith}
use Rattle.bsi_bits.proofs.Filling.{filled_block, filled_pairs}
use Rattle.bsi_bits.proofs.lanes.combine.Goals as goal

pub fours-preserved : goal.fours-preserved
fours-preserved g c =
    rw c.words-combined.ensures (filled_block g.O.Operation.word_of (4 * c.fours.k) c.args.a.now c.args.b.now c.fours.a c.requires c.fours.invariant 4 (4 * (c.fours.k + 1)) (omega arith) (omega arith))

-- no word is left
pub returns : goal.returns
returns g c = filled_pairs g.O.Operation.word_of c.rest.i c.args.a.now c.args.b.now c.rest.a c.requires c.rest.invariant (omega arith)
