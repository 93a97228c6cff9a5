use Rattle.std.proofs.Common.{ℕ, ◌<◌, ◌≤◌, length}
use Rattle.bsi_shift.specs.Shifted.{shifted_room}
use Rattle.bsi_table.specs.Encoded.{encoded_at, IsSameColumn}
use Rattle.bsi_table.proofs.columns.reserve_each.Given as goal

-- the columns are those of the start, and those so far have room
abbrev pub invariant-columns : goal.invariant-columns
invariant-columns l = record {
  same : (k : ℕ) → k < length l.columns → IsSameColumn (encoded_at l.initial.columns k) (encoded_at l.columns k);
  room : (k : ℕ) → k < l.column-index → l.more ≤ shifted_room (encoded_at l.columns k);
  encoded : (k : ℕ) → k < length l.columns → shifted_room (encoded_at l.initial.columns k) ≤ shifted_room (encoded_at l.columns k);
}
