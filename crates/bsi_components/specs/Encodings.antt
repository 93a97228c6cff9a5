-- Components of any encoding, given by the digits at which each bitmap is set: the bitmaps of some digits
-- (`IsMarked`), and the digits that some bitmaps encode (`digits_in`).
use Rattle.std.specs.Prelude.{◌≡◌, ℕ, zero, suc, ◌+◌, ◌-◌, ◌<◌, ◌≤◌, Bool, false, not, List, length, slice_index, slice_index_or, if◌then◌else◌}
use Rattle.bsi_bits.specs.BitList.{BitList}
use Rattle.bsi_kernels.specs.Places.{IsCount, IsEncoded, then_places}
use Rattle.bsi_digits.specs.Digits.{max_base, min_base}
use Rattle.bsi_components.specs.Bitmaps.{digits_by, stored_places}

-- an encoding: digit 0 may have no bitmap, and the bitmap of a digit distinguishes the digit from each lower one
pub record IsMarking (first : ℕ → ℕ) (marks : ℕ → ℕ → Bool) : Type 0 where
  pub low : (base : ℕ) → first base ≤ 1
  pub distinguishes : (v w : ℕ) → v < w → marks w v ≡ not (marks w w)

-- the predicate of bitmap i: that of the encoding, and after its bitmaps a binary place
abbrev pub shows : (ℕ → ℕ) → (ℕ → ℕ → Bool) → ℕ → ℕ → ℕ → Bool
shows first marks base = then_places (base - first base) (λ i v. marks (first base + i) v)

-- the digit of a row by its bits in n bitmaps: the greatest digit whose bitmap has the bit of that digit, and 0 if
-- there is no such digit
abbrev pub last_like : (ℕ → ℕ → Bool) → ℕ → ℕ → List Bool → ℕ
last_like marks first zero bits = 0
last_like marks first (suc n) bits =
    if (if marks (first + n) (first + n) then slice_index_or bits n false else not (slice_index_or bits n false))
    then first + n else last_like marks first n bits

-- the digits that the bitmaps encode
abbrev pub digits_in : (ℕ → ℕ) → (ℕ → ℕ → Bool) → ℕ → List BitList → List ℕ
digits_in first marks base vectors = digits_by (last_like marks (first base) (base - first base)) vectors

-- the vectors of a component with these digits
pub record IsMarked (first : ℕ → ℕ) (marks : ℕ → ℕ → Bool) (base : ℕ) (vectors : List BitList) (digits : List ℕ) : Type 0 where
  -- a vector for each digit from the first on, and then enough binary places for all digits
  pub count : IsCount base (base - first base) (length vectors)
  -- as many places are stored as the base needs
  pub many : length vectors ≡ base - first base + stored_places base
  -- the base is at least 2
  pub least : min_base ≤ base
  -- the base is at most 1,024
  pub most : base ≤ max_base
  -- each digit is below the base
  pub below : (k : ℕ) → slice_index digits k < base
  -- each vector is set at the rows whose digit satisfies the predicate of the vector
  pub encoded : IsEncoded (shows first marks base) vectors digits
