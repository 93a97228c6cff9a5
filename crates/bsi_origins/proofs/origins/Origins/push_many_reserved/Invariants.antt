use Rattle.std.proofs.Common.{◌≡◌, ◌+◌, ◌-◌, ◌≤◌, ◌++◌, replicate}
use Rattle.bsi_origins.proofs.origins.Origins.push_many_reserved.Given as goal

abbrev pub invariant-chunks : goal.invariant-chunks
invariant-chunks l = record {
  within : l.left ≤ l.rows;
  rows : l.self.rows ≡ l.fn.self.rows ++ replicate (l.rows - l.left) l.feeder;
  feeders : l.self.feeders ≡ l.fn.self.feeders;
  room : l.self.room + (l.rows - l.left) ≡ l.fn.self.room;
}

abbrev pub decreases-chunks : goal.decreases-chunks
decreases-chunks l = l.left
