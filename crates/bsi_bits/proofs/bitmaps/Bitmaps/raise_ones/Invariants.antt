use Rattle.std.proofs.Common.{◌≡◌, ◌==◌, ℕ, ◌<◌, Bool, List, false, [], ◌∷◌, ◌++◌, length}
use Rattle.std.specs.Prelude.{not, ◌&&◌}
use Rattle.std.specs.Int.{bit_at}
use Rattle.bsi_bits.specs.BitLists.{bits_at}
use Rattle.bsi_bits.proofs.bitmaps.Bitmaps.raise_ones.Given as goal

-- the places that are left are ones of the number, and the last bits of its other ones are set
abbrev pub invariant-ones : goal.invariant-ones
invariant-ones l = record {
  count : length l.self.vectors ≡ length l.fn.self.vectors;
  room : l.self.room ≡ l.fn.self.room;
  some : (k : ℕ) → k < length l.fn.self.vectors → 0 < length (bits_at l.self.vectors k);
  among : (k : ℕ) → bit_at l.left k ≡ 1 → bit_at l.number k ≡ 1;
  raised : (k : ℕ) (front : List Bool) → k < length l.fn.self.vectors → bits_at l.fn.self.vectors k ≡ front ++ false ∷ []
      → bits_at l.self.vectors k ≡ front ++ ((bit_at l.number k == 1) && not (bit_at l.left k == 1)) ∷ [];
}

abbrev pub decreases-ones : goal.decreases-ones
decreases-ones l = l.left
