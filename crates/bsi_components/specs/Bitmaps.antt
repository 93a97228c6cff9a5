-- The vectors of a component, its bitmaps and after them its binary places, as a list of digits.
use Rattle.std.specs.Prelude.{ℕ, ◌+◌, Bool, false, List, [], ◌∷◌, length, map, nat_lt, slice_index_or, if◌then◌else◌}
use Rattle.std.specs.List.{range_with_len}
use Rattle.bsi_bits.specs.BitList.{BitList}
use Rattle.bsi_bits.specs.BitLists.{bits_at}
use Rattle.bsi_kernels.specs.Places.{min_base_with_places}
use Rattle.bsi_components.specs.PlaceNumbers.{place_count}

-- the bits of row k, one of each vector
abbrev pub row : List BitList → ℕ → List Bool
row bitmaps k = map (λ b. slice_index_or b.bits k false) bitmaps

-- the digit of each row, by its bits
unfoldable pub digits_by : (List Bool → ℕ) → List BitList → List ℕ
digits_by digit bitmaps = map (λ k. digit (row bitmaps k)) (range_with_len 0 (length (bits_at bitmaps 0)))

-- the number of binary places of its digits that a component stores: all places, or none below a least base
abbrev pub stored_places : ℕ → ℕ
stored_places base = if nat_lt base min_base_with_places then 0 else place_count base
