use Rattle.bsi_shift.proofs.Moving.{IsMoved}
use Rattle.bsi_shift.proofs.shifted.move_block.Given as goal

abbrev pub invariant-entries : goal.invariant-entries
invariant-entries l = IsMoved l.from l.numbers l.not_null l.to l.stored l.r
