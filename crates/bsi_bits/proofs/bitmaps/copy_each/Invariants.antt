use Rattle.std.proofs.Common.{◌≡◌, ℕ, ◌<◌, ◌≤◌, length}
use Rattle.std.specs.Vec.{vec_capacity}
use Rattle.bsi_bits.specs.BitLists.{bits_at}
use Rattle.bsi_bits.proofs.bitmaps.copy_each.Given as goal

abbrev pub invariant-vectors : goal.invariant-vectors
invariant-vectors l = record {
  long : length l.made.items ≡ l.vector-index;
  room : length l.vectors.items ≤ vec_capacity l.made;
  bits : (j : ℕ) → j < l.vector-index → bits_at l.made.items j ≡ bits_at l.vectors.items j;
}
