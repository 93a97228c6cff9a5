use Rattle.std.proofs.Common.{◌≡◌, ℕ, ◌<◌}
use Rattle.bsi_files.specs.Progress.{IsDrained, SettledUnchanged}
use Rattle.bsi_files.proofs.loading.drain_all.Given as goal

abbrev pub invariant-feeders : goal.invariant-feeders
invariant-feeders g l = record {
  system : l.loader.system ≡ l.initial.loader.system;
  settled : SettledUnchanged l.initial.loader.progress l.loader.progress;
  drained : (f : ℕ) → f < l.feeder → IsDrained f l.loader.progress;
}
