use Rattle.std.proofs.Common.{◌≡◌}
use Rattle.bsi_test_system.proofs.crowd.send.Given as goal

-- the feeder stays the one that it was
abbrev pub invariant-tries : goal.invariant-tries
invariant-tries l = (l.feeder.number ≡ l.fn.feeder.number) × (l.feeder.channel ≡ l.fn.feeder.channel)
