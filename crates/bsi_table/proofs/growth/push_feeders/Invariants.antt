use Rattle.std.proofs.Common.{◌≡◌, ◌+◌, ◌++◌, take}
use Rattle.bsi_table.proofs.growth.push_feeders.Given as goal

abbrev pub invariant-rows : goal.invariant-rows
invariant-rows l = record {
  rows : l.origins.rows ≡ l.fn.origins.rows ++ take l.feeder-index l.row_feeders;
  feeders : l.origins.feeders ≡ l.fn.origins.feeders;
  room : l.origins.room + l.feeder-index ≡ l.fn.origins.room;
}
