use Rattle.std.proofs.Common.{◌≡◌, ℕ, ◌<◌, ◌≤◌}
use Rattle.bsi_rows.specs.Rows.{column_of}
use Rattle.bsi_table.specs.Encoded.{encoded_at, HasMore}
use Rattle.bsi_table.proofs.columns.push_block_each.Given as goal

-- the columns so far have their entries of the rows, and the others are those of the start
abbrev pub invariant-columns : goal.invariant-columns
invariant-columns l = record {
  pushed : (k : ℕ) → k < l.c → HasMore (encoded_at l.initial.columns k) (encoded_at l.columns k) (column_of l.block.rows k);
  others : (k : ℕ) → l.c ≤ k → encoded_at l.columns k ≡ encoded_at l.initial.columns k;
}
