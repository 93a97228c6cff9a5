use Rattle.bsi_slices.proofs.Exchanging.{Run}
use Rattle.bsi_slices.proofs.transposing.exchange_run.Given as goal

abbrev pub invariant-rows : goal.invariant-rows
invariant-rows l = Run l.s l.from l.k l.fn.words l.words
