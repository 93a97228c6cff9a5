use Rattle.std.proofs.Common.{All}
use Rattle.std.specs.Vec.Iter.{into_iter_items}
use Rattle.bsi_system.specs.LoaderSteps.{IsFeederOf}
use Rattle.bsi_test_system.proofs.crowd.settle_all.Given as goal

-- the threads that are left are of feeders of the loader's system
abbrev pub invariant-senders : goal.invariant-senders
invariant-senders g l = All (λ s. IsFeederOf s.promise.feeder.value l.loader.system) (into_iter_items l.sender-iterator)
