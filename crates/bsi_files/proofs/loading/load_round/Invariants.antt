use Rattle.std.proofs.Common.{◌≡◌}
use Rattle.bsi_files.proofs.loading.load_round.Given as goal

abbrev pub invariant-feeders : goal.invariant-feeders
invariant-feeders g l = l.loader.system ≡ l.initial.loader.system
