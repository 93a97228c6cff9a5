use Rattle.std.proofs.Common.{◌≡◌, ℕ, ◌<◌, ◌≤◌, Bool, List, false, true, [], ◌∷◌, ◌++◌, length}
use Rattle.bsi_bits.specs.BitLists.{bits_at, room_at}
use Rattle.bsi_bits.proofs.bitmaps.Bitmaps.raise_last.Given as goal

abbrev pub invariant-vectors : goal.invariant-vectors
invariant-vectors l = record {
  long : length l.self-inside.vectors.items ≡ length l.initial.self-inside.vectors.items;
  room : l.self-inside.room ≡ l.initial.self-inside.room;
  from_there : l.from ≤ l.j;
  lengths : (k : ℕ) → length (bits_at l.self-inside.vectors.items k) ≡ length (bits_at l.initial.self-inside.vectors.items k);
  rooms : (k : ℕ) → room_at l.self-inside.vectors.items k ≡ room_at l.initial.self-inside.vectors.items k;
  raised : (k : ℕ) (front : List Bool) → l.from ≤ k → k < l.j → bits_at l.initial.self-inside.vectors.items k ≡ front ++ false ∷ [] → bits_at l.self-inside.vectors.items k ≡ front ++ true ∷ [];
  before : (k : ℕ) → k < l.from → bits_at l.self-inside.vectors.items k ≡ bits_at l.initial.self-inside.vectors.items k;
  after : (k : ℕ) → l.j ≤ k → bits_at l.self-inside.vectors.items k ≡ bits_at l.initial.self-inside.vectors.items k;
}
