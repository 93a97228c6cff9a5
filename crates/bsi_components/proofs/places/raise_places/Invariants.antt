use Rattle.std.proofs.Common.{◌≡◌, ◌==◌, ℕ, ◌-◌, ◌<◌, ◌≤◌, Bool, List, false, [], ◌∷◌, ◌++◌, length}
use Rattle.std.specs.Prelude.{not, ◌&&◌}
use Rattle.std.specs.Int.{bit_at}
use Rattle.bsi_bits.specs.BitLists.{bits_at}
use Rattle.bsi_kernels.specs.Places.{has_place}
use Rattle.bsi_components.proofs.places.raise_places.Given as goal

-- the places that are left are ones of the digit, and the last bits of its other ones are set
abbrev pub invariant-ones : goal.invariant-ones
invariant-ones l = record {
  count : length l.bitmaps.vectors ≡ length l.fn.bitmaps.vectors;
  some : 0 < length (bits_at l.bitmaps.vectors 0);
  room : l.bitmaps.room ≡ l.fn.bitmaps.room;
  before : (j : ℕ) → j < l.own → bits_at l.bitmaps.vectors j ≡ bits_at l.fn.bitmaps.vectors j;
  among : (k : ℕ) → bit_at l.left k ≡ 1 → bit_at l.digit k ≡ 1;
  raised : (j : ℕ) (front : List Bool) → l.own ≤ j → j < length l.fn.bitmaps.vectors → bits_at l.fn.bitmaps.vectors j ≡ front ++ false ∷ []
      → bits_at l.bitmaps.vectors j ≡ front ++ (has_place (j - l.own) l.digit && not (bit_at l.left (j - l.own) == 1)) ∷ [];
}

abbrev pub decreases-ones : goal.decreases-ones
decreases-ones l = l.left
