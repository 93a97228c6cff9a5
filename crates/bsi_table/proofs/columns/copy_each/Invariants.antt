use Rattle.std.proofs.Common.{◌≡◌, ℕ, ◌<◌, ◌≤◌, length}
use Rattle.std.specs.Prelude.{vec_capacity}
use Rattle.bsi_table.specs.Encoded.{encoded_at, IsSameColumn}
use Rattle.bsi_table.proofs.columns.copy_each.Given as goal

-- the columns so far are copied
abbrev pub invariant-columns : goal.invariant-columns
invariant-columns l = record {
  room : length l.columns ≤ vec_capacity l.copied;
  long : length l.copied.items ≡ l.column-index;
  same : (k : ℕ) → k < l.column-index → IsSameColumn (encoded_at l.columns k) (encoded_at l.copied.items k);
}
