use Rattle.std.proofs.Common.{◌≡◌, ℕ, ◌<◌, ◌≤◌, length}
use Rattle.std.specs.Prelude.{vec_capacity}
use Rattle.bsi_schema.specs.Columns.{column_at}
use Rattle.bsi_table.specs.Encoded.{encoded_at, Encodes}
use Rattle.bsi_table.proofs.columns.make_each.Given as goal

-- the columns so far are made
abbrev pub invariant-columns : goal.invariant-columns
invariant-columns l = record {
  room : length l.schema.columns ≤ vec_capacity l.made;
  long : length l.made.items ≡ l.c;
  each : (k : ℕ) → k < l.c → Encodes (column_at l.schema.columns k) (encoded_at l.made.items k) 0;
}
