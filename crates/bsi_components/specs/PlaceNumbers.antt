-- Numbers by the bitmaps of their binary places, the least place first.
use Rattle.std.specs.Prelude.{◌≡◌, ℕ, ◌+◌, ◌-◌, ◌*◌, ◌<◌, ◌≤◌, false, if◌then◌else◌, List, [], ◌∷◌, length, map, slice_index, slice_index_or}
use Rattle.std.specs.Int.Count.{count_leading_zeros}
use Rattle.std.specs.List.{range_with_len}
use Rattle.bsi_bits.specs.BitList.{BitList}
use Rattle.bsi_bits.specs.BitLists.{bits_at}

-- the number of binary places of the digits below a base
abbrev pub place_count : ℕ → ℕ
place_count base = 32 - count_leading_zeros 32 (base - 1)

-- the number of row r, by its bits in the places
unfoldable pub number_in : List BitList → ℕ → ℕ
number_in [] r = 0
number_in (place ∷ places) r = (if slice_index_or place.bits r false then 1 else 0) + 2 * number_in places r

-- the numbers of all rows
unfoldable pub numbers_in : List BitList → List ℕ
numbers_in places = map (number_in places) (range_with_len 0 (length (bits_at places 0)))

-- there are bitmaps, all of one length
pub record AreLevel (places : List BitList) : Type 0 where
  pub some : 0 < length places
  pub even : (k : ℕ) → k < length places → length (bits_at places k) ≡ length (bits_at places 0)

-- the number of a row is not below the base
abbrev pub HasNumberPastBase : ℕ → List ℕ → Type 0
HasNumberPastBase base numbers = (k : ℕ) × (k < length numbers) × (base ≤ slice_index numbers k)
