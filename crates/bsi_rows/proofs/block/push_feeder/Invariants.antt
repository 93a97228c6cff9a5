use Rattle.std.proofs.Common.{◌≡◌, ◌++◌, replicate}
use Rattle.std.specs.Prelude.{vec_capacity}
use Rattle.bsi_rows.proofs.block.push_feeder.Given as goal

-- so many are added
abbrev pub invariant-rows : goal.invariant-rows
invariant-rows l = record {
  items : l.row_feeders.items ≡ l.initial.row_feeders.items ++ replicate l.counter l.feeder;
  room : vec_capacity l.row_feeders ≡ vec_capacity l.initial.row_feeders;
}
