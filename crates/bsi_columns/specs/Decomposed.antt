-- A column of numbers that stores the digits of each number under its bases (`Decomposes`).
use Rattle.std.specs.Prelude.{◌≡◌, ℕ, ◌+◌, ◌/◌, ◌<◌, ◌≤◌, Bool, false, List, [], Option, Some, None, length, map, is_some, slice_index, slice_index_or, All, if◌then◌else◌}
use Rattle.std.specs.List.{range_with_len}
use Rattle.bsi_bits.specs.BitList.{max_len}
use Rattle.bsi_digits.specs.Digits.{product, digit_of, components, weighted_sum}
use Rattle.bsi_digits.specs.Comparisons.{number_or_zero}

-- what a contract sees of a decomposed column: its bases, least significant first, its entries, and for how many more
-- there is room
pub record Decomposition : Type 0 where
  pub bases : List ℕ
  pub entries : List (Option ℕ)
  pub room : ℕ

-- the digits of row r, one for each component
abbrev pub digits_at : List (List ℕ) → ℕ → List ℕ
digits_at ds r = map (λ d. slice_index d r) ds

-- the entry of row r: a null, or the weighted sum of its digits
abbrev pub weighed_entry : List ℕ → List Bool → List (List ℕ) → ℕ → Option ℕ
weighed_entry bs not_null ds r =
    if slice_index_or not_null r false then Some (weighted_sum bs (digits_at ds r) (components bs)) else None

-- the entries that a not-null bitmap and the digits of the components encode
unfoldable pub entries_of : List ℕ → List Bool → List (List ℕ) → List (Option ℕ)
entries_of bs not_null ds = map (weighed_entry bs not_null ds) (range_with_len 0 (length not_null))

-- entries as a not-null bitmap and, for each base, the digits of all rows
pub record Decomposes (bs : List ℕ) (not_null : List Bool) (ds : List (List ℕ)) (entries : List (Option ℕ))
    : Type 0 where
  -- there are as many lists of digits as bases
  pub count : length ds ≡ length bs
  -- the not-null bitmap is set at the rows whose entry is a number
  pub not_null_is : not_null ≡ map is_some entries
  -- the digits of a null are those of 0
  pub digits_are : (i : ℕ) → i < length bs
      → slice_index_or ds i [] ≡ map (λ e. digit_of bs (number_or_zero e) i) entries
  -- each number is below the size, the product of the bases
  pub below : All (λ e. number_or_zero e < product bs) entries

-- the digits of each component: one for each row, below the base
pub record AreDigitsBelow (bs : List ℕ) (rows : ℕ) (ds : List (List ℕ)) : Type 0 where
  pub count : length ds ≡ length bs
  pub rows_are : (i : ℕ) → i < length bs → length (slice_index_or ds i []) ≡ rows
  pub below : (i r : ℕ) → i < length bs → slice_index (slice_index_or ds i []) r < slice_index bs i

-- the digits of each component, which are 0 at the rows without a number
pub record AreDigitLists (bs : List ℕ) (not_null : List Bool) (ds : List (List ℕ)) : Type 0 where
  pub digits : AreDigitsBelow bs (length not_null) ds
  pub clear : (i r : ℕ) → i < length bs → r < length not_null → slice_index_or not_null r false ≡ false
      → slice_index (slice_index_or ds i []) r ≡ 0

-- after `rows` rows the not-null bitmap and each component have room for `room` more
pub record IsRoomy (rows room not_null : ℕ) (rooms : List ℕ) : Type 0 where
  pub within : rows + room ≤ max_len
  pub bitmap : room ≤ not_null
  pub each : (i : ℕ) → i < length rooms → room ≤ slice_index rooms i

-- the first quotients are those of the numbers by the divisor
pub record AreQuotients (numbers : List ℕ) (divisor : ℕ) (quotients : List ℕ) : Type 0 where
  pub each : (r : ℕ) → r < length numbers → slice_index quotients r ≡ slice_index numbers r / divisor
