use Rattle.std.proofs.Common.{◌≡◌, ◌≤◌, nat_eq, take}
use Rattle.std.specs.Prelude.{count_by}
use Rattle.bsi_origins.proofs.origins.count_rows_of.Given as goal

-- the rows so far were counted
abbrev pub invariant-rows : goal.invariant-rows
invariant-rows l = record {
  counted : l.count ≡ count_by (λ row_feeder. nat_eq row_feeder l.fn.feeder) (take l.row_feeder-index l.row_feeders);
  few : l.count ≤ l.row_feeder-index;
}
