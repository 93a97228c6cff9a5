use Rattle.std.proofs.Common.{◌≡◌, ◌-◌}
use Rattle.bsi_files.proofs.loading.load_some.Given as goal

abbrev pub invariant-rows : goal.invariant-rows
invariant-rows g l = l.loader.system ≡ l.initial.loader.system

abbrev pub decreases-rows : goal.decreases-rows
decreases-rows g l = 256 - l.popped
