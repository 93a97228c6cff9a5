use Rattle.std.proofs.Common.{◌≡◌}
use Rattle.bsi_test_system.proofs.crowd.load_each.Given as goal

-- the loader stays that of its system
abbrev pub invariant-feeders : goal.invariant-feeders
invariant-feeders g l = l.loader.system ≡ l.fn.loader.system
