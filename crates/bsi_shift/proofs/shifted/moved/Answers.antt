use Rattle.std.proofs.Common.{arith}
use Rattle.std.proofs.lemmas.Int.{ints}
use Rattle.bsi_shift.proofs.shifted.moved.Goals as goal

pub overflow_cast-result : goal.overflow_cast-result
overflow_cast-result c = grind (arith, ints, c.from.ensures, c.from-2.ensures, c.from-3.ensures, c.requires)

pub returns : goal.returns
returns c = grind (arith, ints, c.from.ensures, c.from-2.ensures, c.from-3.ensures, c.requires)
