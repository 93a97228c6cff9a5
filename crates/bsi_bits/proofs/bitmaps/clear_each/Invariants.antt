use Rattle.std.proofs.Common.{◌≡◌, ℕ, ◌+◌, ◌<◌, ◌≤◌, [], length}
use Rattle.bsi_bits.specs.BitLists.{bits_at, room_at}
use Rattle.bsi_bits.proofs.bitmaps.clear_each.Given as goal

abbrev pub invariant-vectors : goal.invariant-vectors
invariant-vectors l = record {
  long : length l.vectors ≡ length l.fn.vectors;
  empty : (j : ℕ) → j < l.vector-index → bits_at l.vectors j ≡ [];
  room : (j : ℕ) → j < l.vector-index → length (bits_at l.fn.vectors j) + room_at l.fn.vectors j ≤ room_at l.vectors j;
  bits_left : (j : ℕ) → l.vector-index ≤ j → bits_at l.vectors j ≡ bits_at l.fn.vectors j;
  room_left : (j : ℕ) → l.vector-index ≤ j → room_at l.vectors j ≡ room_at l.fn.vectors j;
}
