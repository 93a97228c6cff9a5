use Rattle.std.proofs.Common.{◌≡◌, ◌+◌, ◌≤◌, length, take}
use Rattle.bsi_origins.proofs.origins.Origins.from_feeders.Given as goal

-- the rows so far
abbrev pub invariant-rows : goal.invariant-rows
invariant-rows l = record {
  rows : l.origins.rows ≡ take l.feeder-index l.row_feeders;
  feeders : l.origins.feeders ≡ l.feeders;
  room : length l.row_feeders ≤ l.origins.room + l.feeder-index;
}
