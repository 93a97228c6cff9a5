use Rattle.std.proofs.Common.{◌≡◌}
use Rattle.bsi_system.specs.Rings.{with_look}
use Rattle.bsi_files.proofs.feeding.send_batch.Given as goal

-- the batch was not sent yet
abbrev pub invariant-tries : goal.invariant-tries
invariant-tries g l = (l.batch ≡ l.initial.batch) × (l.feeder ≡ with_look l.initial.feeder l.feeder.look)
