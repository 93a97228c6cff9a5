use Rattle.std.proofs.Common.{◌≡◌, ℕ, ◌<◌, ◌≤◌, length}
use Rattle.bsi_bits.specs.BitLists.{bits_at, room_at}
use Rattle.bsi_bits.proofs.bitmaps.reserve_each.Given as goal

abbrev pub invariant-vectors : goal.invariant-vectors
invariant-vectors l = record {
  long : length l.vectors ≡ length l.fn.vectors;
  bits : (j : ℕ) → bits_at l.vectors j ≡ bits_at l.fn.vectors j;
  no_less : (j : ℕ) → room_at l.fn.vectors j ≤ room_at l.vectors j;
  room : (j : ℕ) → j < l.vector-index → l.more ≤ room_at l.vectors j;
}
