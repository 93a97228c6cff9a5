use Rattle.std.proofs.Common.{◌≡◌}
use Rattle.bsi_examples.proofs.first.index_prices.Given as goal

-- the index has its one feeder
abbrev pub invariant-prices : goal.invariant-prices
invariant-prices l = l.index.feeders ≡ 1
