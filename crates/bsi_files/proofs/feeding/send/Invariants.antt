use Rattle.std.proofs.Common.{◌≡◌}
use Rattle.bsi_system.specs.Rings.{with_look}
use Rattle.bsi_files.proofs.feeding.send.Given as goal

-- the row was not sent yet
abbrev pub invariant-tries : goal.invariant-tries
invariant-tries g l = (l.row ≡ l.initial.row) × (l.feeder ≡ with_look l.initial.feeder l.feeder.look)
