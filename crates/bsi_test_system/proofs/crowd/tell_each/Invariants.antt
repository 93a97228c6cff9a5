use Rattle.std.proofs.Common.{◌≡◌}
use Rattle.bsi_test_system.proofs.crowd.tell_each.Given as goal

-- the loader stays that of its system
abbrev pub invariant-letters : goal.invariant-letters
invariant-letters g l = l.loader.system ≡ l.fn.loader.system
