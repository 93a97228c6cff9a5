use Rattle.std.proofs.Common.{◌≡◌, ℕ, ◌<◌, ◌≤◌}
use Rattle.bsi_rows.specs.Rows.{entry_at}
use Rattle.bsi_table.specs.Encoded.{encoded_at, HasOneMore}
use Rattle.bsi_table.proofs.columns.push_each.Given as goal

-- the columns so far have their entries of the row, and the others are those of the start
abbrev pub invariant-columns : goal.invariant-columns
invariant-columns l = record {
  pushed : (k : ℕ) → k < l.c → HasOneMore (encoded_at l.initial.columns k) (encoded_at l.columns k) (entry_at l.values k);
  others : (k : ℕ) → l.c ≤ k → encoded_at l.columns k ≡ encoded_at l.initial.columns k;
}
