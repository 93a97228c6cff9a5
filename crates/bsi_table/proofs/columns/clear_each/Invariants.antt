use Rattle.std.proofs.Common.{◌≡◌, ℕ, ◌+◌, ◌<◌, ◌≤◌, [], length}
use Rattle.bsi_shift.specs.Shifted.{shifted_entries, shifted_room, IsAlike}
use Rattle.bsi_table.specs.Encoded.{encoded_at}
use Rattle.bsi_table.proofs.columns.clear_each.Given as goal

-- the columns so far are empty, and those behind them are those of the start
abbrev pub invariant-columns : goal.invariant-columns
invariant-columns l = record {
  long : length l.columns ≡ length l.initial.columns;
  empty : (k : ℕ) → k < l.column-index → shifted_entries (encoded_at l.columns k) ≡ [];
  alike : (k : ℕ) → k < l.column-index → IsAlike (encoded_at l.initial.columns k) (encoded_at l.columns k);
  room : (k : ℕ) → k < l.column-index → length (shifted_entries (encoded_at l.initial.columns k)) + shifted_room (encoded_at l.initial.columns k) ≤ shifted_room (encoded_at l.columns k);
  others : (k : ℕ) → l.column-index ≤ k → encoded_at l.columns k ≡ encoded_at l.initial.columns k;
}
