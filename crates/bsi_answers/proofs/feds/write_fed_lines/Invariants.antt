use Rattle.bsi_answers.proofs.Telling.{HasTold}
use Rattle.bsi_answers.proofs.feds.write_fed_lines.Given as goal

-- the lines of the first feeders were written
abbrev pub invariant-feeders : goal.invariant-feeders
invariant-feeders g l = HasTold l.fed l.feeder (g.W.Write.contents l.initial.writer) (g.W.Write.contents l.writer)
