use Rattle.std.proofs.Common.{◌≡◌}
use Rattle.bsi_files.specs.Progress.{PopsOnlyOf}
use Rattle.bsi_files.proofs.loading.drain.Given as goal

abbrev pub invariant-rows : goal.invariant-rows
invariant-rows g l = record {
  can_next : (goal.iterator-rows g).can_next l.iterator';
  is_finite : (goal.iterator-rows g).is_finite l.iterator';
  system : l.loader.system ≡ l.initial.loader.system;
  pops : PopsOnlyOf l.feeder l.initial.loader.progress l.loader.progress;
}
