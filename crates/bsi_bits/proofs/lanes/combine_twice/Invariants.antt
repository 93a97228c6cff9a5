use Rattle.std.proofs.Common.{◌*◌}
use Rattle.bsi_bits.proofs.Filling.{IsFilled, paired_twice}
use Rattle.bsi_bits.proofs.lanes.combine_twice.Given as goal

abbrev pub invariant-fours : goal.invariant-fours
invariant-fours g l = IsFilled (paired_twice g.O.Operation.word_of g.P.Operation.word_of l.b l.c) (4 * l.k) l.fn.a l.a

abbrev pub invariant-rest : goal.invariant-rest
invariant-rest g l = IsFilled (paired_twice g.O.Operation.word_of g.P.Operation.word_of l.b l.c) l.i l.fn.a l.a
