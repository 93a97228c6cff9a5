use Rattle.std.proofs.Common.{◌≡◌}
use Rattle.bsi_examples.proofs.threads.feed.Given as goal

-- the feeder stays the one that it was
abbrev pub invariant-rows : goal.invariant-rows
invariant-rows l = (l.feeder.number ≡ l.fn.feeder.number) × (l.feeder.channel ≡ l.fn.feeder.channel)
