use Rattle.bsi_slices.proofs.Exchanging.{Runs}
use Rattle.bsi_slices.proofs.transposing.exchange.Given as goal

abbrev pub invariant-runs : goal.invariant-runs
invariant-runs l = Runs l.s l.p l.fn.words l.words
