use Rattle.std.proofs.Common.{◌≡◌, ◌+◌, ◌-◌, ◌≤◌, ◌++◌, length, take}
use Rattle.bsi_origins.proofs.origins.Origins.push_all_reserved.Given as goal

abbrev pub invariant-runs : goal.invariant-runs
invariant-runs l = record {
  within : l.at ≤ length l.other.rows;
  rows : l.self.rows ≡ l.fn.self.rows ++ take l.at l.other.rows;
  feeders : l.self.feeders ≡ l.fn.self.feeders;
  room : l.self.room + l.at ≡ l.fn.self.room;
}

abbrev pub decreases-runs : goal.decreases-runs
decreases-runs l = length l.other.rows - l.at
