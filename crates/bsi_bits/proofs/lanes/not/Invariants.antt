use Rattle.std.proofs.Common.{◌*◌}
use Rattle.std.specs.Int.{bit_not, w64}
use Rattle.bsi_bits.proofs.Filling.{IsFilled, alone}
use Rattle.bsi_bits.proofs.lanes.not.Given as goal

abbrev pub invariant-fours : goal.invariant-fours
invariant-fours l = IsFilled (alone (bit_not w64)) (4 * l.k) l.fn.a l.a

abbrev pub invariant-rest : goal.invariant-rest
invariant-rest l = IsFilled (alone (bit_not w64)) l.i l.fn.a l.a
