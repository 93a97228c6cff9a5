use Rattle.std.proofs.Common.{◌≡◌, ℕ, ◌<◌, ◌≤◌, length}
use Rattle.bsi_shift.specs.Shifted.{shifted_entries}
use Rattle.bsi_table.specs.Encoded.{encoded_at, HasMore}
use Rattle.bsi_table.proofs.columns.push_all_each.Given as goal

-- the columns so far have the entries of the others, and those behind them are those of the start
abbrev pub invariant-columns : goal.invariant-columns
invariant-columns l = record {
  long : length l.columns ≡ length l.initial.columns;
  pushed : (k : ℕ) → k < l.c → HasMore (encoded_at l.initial.columns k) (encoded_at l.columns k) (shifted_entries (encoded_at l.others k));
  others : (k : ℕ) → l.c ≤ k → encoded_at l.columns k ≡ encoded_at l.initial.columns k;
}
