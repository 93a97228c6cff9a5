use Rattle.std.proofs.Common.{All}
use Rattle.std.specs.Vec.Iter.{into_iter_items}
use Rattle.bsi_system.specs.LoaderSteps.{IsFeederOf}
use Rattle.bsi_test_system.proofs.crowd.start_feeders.Given as goal

-- the feeders that are left, and the threads that were started, are of the loader's system
abbrev pub invariant-feeders : goal.invariant-feeders
invariant-feeders g l =
    All (λ f. IsFeederOf f l.loader.system) (into_iter_items l.feeder-iterator)
    × All (λ s. IsFeederOf s.promise.feeder.value l.loader.system) l.senders.items
