use Rattle.std.proofs.Common.{◌≡◌}
use Rattle.bsi_test_system.proofs.crowd.serve.Given as goal

-- the loader stays that of its system
abbrev pub invariant-rounds : goal.invariant-rounds
invariant-rounds g l = l.loader.system ≡ l.fn.loader.system
