use Rattle.std.proofs.Common.{◌≡◌, ℕ, ◌+◌, ◌<◌, ◌≤◌, false, [], ◌∷◌, ◌++◌, length}
use Rattle.bsi_bits.specs.BitLists.{bits_at, room_at}
use Rattle.bsi_bits.proofs.bitmaps.Bitmaps.lengthen.Given as goal

abbrev pub invariant-vectors : goal.invariant-vectors
invariant-vectors l = record {
  long : length l.vector-items ≡ length l.initial.vector-items;
  done : (k : ℕ) → k < l.vector-index → bits_at l.vector-items k ≡ bits_at l.initial.vector-items k ++ false ∷ [];
  spare : (k : ℕ) → k < l.vector-index → room_at l.initial.vector-items k ≤ room_at l.vector-items k + 1;
  rest : (k : ℕ) → l.vector-index ≤ k → bits_at l.vector-items k ≡ bits_at l.initial.vector-items k;
  ample : (k : ℕ) → l.vector-index ≤ k → room_at l.vector-items k ≡ room_at l.initial.vector-items k;
}
