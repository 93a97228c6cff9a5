-- A column as slices (`IsSliced`): bit r of slice k is binary place k of the number of row r. A not-null bitmap says
-- which rows have a number.
use Rattle.std.specs.Prelude.{◌≡◌, ℕ, ◌+◌, ◌*◌, ◌<◌, ◌≤◌, Bool, false, if◌then◌else◌, List, [], ◌∷◌, length, map, Option, Some, None, slice_index_or}
use Rattle.std.specs.List.{range_with_len}
pub use Rattle.bsi_kernels.specs.Places.{bit_value}
use Rattle.bsi_kernels.specs.Places.{max_places}
use Rattle.bsi_bits.specs.BitList.{max_len, BitList}
use Rattle.bsi_bits.specs.BitLists.{bits_at}

-- what a contract sees of a column of slices: the number of slices, the entries, and for how many more there is room
pub record SliceRows : Type 0 where
  pub width : ℕ
  pub entries : List (Option ℕ)
  pub room : ℕ

-- the number of row r, where the slice of the least place is listed first
unfoldable pub number : List BitList → ℕ → ℕ
number [] r = 0
number (slice ∷ slices) r = bit_value (slice_index_or slice.bits r false) + 2 * number slices r

-- the entry of row r: its number, or a null
abbrev pub sliced_entry : List Bool → List BitList → ℕ → Option ℕ
sliced_entry not_null slices r = if slice_index_or not_null r false then Some (number slices r) else None

-- the entries of a column
unfoldable pub entries_in : List Bool → List BitList → List (Option ℕ)
entries_in not_null slices = map (sliced_entry not_null slices) (range_with_len 0 (length not_null))

-- the slices of a column, with its not-null bitmap
pub record IsSliced (not_null : List Bool) (slices : List BitList) : Type 0 where
  -- there is at least one slice
  pub some : 1 ≤ length slices
  -- there are at most 63 slices
  pub few : length slices ≤ max_places
  -- there are at most 2^32 rows
  pub small : length not_null ≤ max_len
  -- each slice has a bit for each row
  pub even : (k : ℕ) → k < length slices → length (bits_at slices k) ≡ length not_null
  -- the bits of a null are clear
  pub clear : (r : ℕ) → r < length not_null → slice_index_or not_null r false ≡ false → number slices r ≡ 0
