use Rattle.std.proofs.Common.{◌*◌, ◌+◌, arith}
use Rattle.std.specs.Int.{bit_not, w64}
use Rattle.bsi_bits.proofs.Filling.{filled_mapped, filled_map}
use Rattle.bsi_bits.proofs.lanes.not.Goals as goal

pub fours-preserved : goal.fours-preserved
fours-preserved c = filled_mapped (bit_not w64) (4 * c.fours.k) c.args.a.now c.fours.a c.fours.invariant 4 (4 * (c.fours.k + 1)) (omega arith) (omega arith)

-- no word is left
pub returns : goal.returns
returns c = filled_map (bit_not w64) c.rest.i c.args.a.now c.rest.a c.rest.invariant (omega arith)
