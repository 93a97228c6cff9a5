use Rattle.std.proofs.Common.{◌≡◌}
use Rattle.bsi_examples.proofs.threads.load_all.Given as goal

-- the loader stays that of its system
abbrev pub invariant-loads : goal.invariant-loads
invariant-loads g l = l.loader.system ≡ l.fn.loader.system
