use Rattle.std.proofs.Common.{◌*◌}
use Rattle.bsi_bits.proofs.Filling.{IsFilled, paired}
use Rattle.bsi_bits.proofs.lanes.combine.Given as goal

abbrev pub invariant-fours : goal.invariant-fours
invariant-fours g l = IsFilled (paired g.O.Operation.word_of l.b) (4 * l.k) l.fn.a l.a

abbrev pub invariant-rest : goal.invariant-rest
invariant-rest g l = IsFilled (paired g.O.Operation.word_of l.b) l.i l.fn.a l.a
