-- The selected rows with the greatest or the least numbers in a column, in order (`AreTop`); and what the search for them
-- goes through: more rows than asked for, in any order (`AreFirst`), the rank of a bound, and blocks of entries.
use Rattle.std.specs.Prelude.{◌≡◌, ◌≢◌, ◌⊎◌, ◌&&◌, ◌||◌, ◌≤◌, ◌+◌, ◌/◌, ◌%◌, ℕ, ℤ, pos, Bool, true, false, List, Option, Some, None, All, AllPairs, Contains, IfSome, IsSome, IsTrue, count_by, length, map, nat_lt, slice_index_or, unwrap_or}
use Rattle.std.specs.Ordering.{int_eq}
use Rattle.std.specs.Simd.Lanes.{zip2}
use Rattle.bsi_digits.specs.WholeNumbers.{signed_order, signed_selects}
use Rattle.bsi_digits.specs.Orders.{compares_by}
use Rattle.bsi_digits.specs.declared.op.Op.{Op}
use Rattle.bsi_digits.specs.declared.op.Op.TheVariants.{Gt, Lt}
use Rattle.bsi_digits.specs.declared.extreme.Extreme.{Extreme}
use Rattle.bsi_digits.specs.declared.extreme.Extreme.TheVariants.{Greatest, Least}
use Rattle.bsi_aggregates.specs.declared.tops.TopRow.{TopRow}

-- The operator of "more extreme": greater if the greatest numbers come first, less if the least do.
abbrev pub op_beyond : Extreme → Op
op_beyond Greatest = Gt
op_beyond Least = Lt

-- A number is more extreme than another one, and so comes before it.
abbrev pub is_beyond : Extreme → ℤ → ℤ → Bool
is_beyond extreme x y = compares_by signed_order (op_beyond extreme) x y

-- A row comes before another one: by its number or, of equal numbers, by its position.
abbrev pub is_ahead : Extreme → TopRow → TopRow → Bool
is_ahead extreme x y = is_beyond extreme x.number y.number || (int_eq x.number y.number && nat_lt x.row y.row)

-- The row is selected, and the column has this number there.
abbrev pub IsRowOf : List Bool → List (Option ℤ) → TopRow → Type 0
IsRowOf selection entries row =
    (slice_index_or selection row.row false ≡ true) × (slice_index_or entries row.row None ≡ Some row.number)

-- The list has `most` rows, and each of them comes before the given row.
abbrev pub IsAfterFullList : Extreme → ℕ → List TopRow → TopRow → Type 0
IsAfterFullList extreme most listed row = (length listed ≡ most) × All (λ x. IsTrue (is_ahead extreme x row)) listed

-- The list has `most` rows or more, and each of them comes before the given row.
abbrev pub IsAfterLongList : Extreme → ℕ → List TopRow → TopRow → Type 0
IsAfterLongList extreme most listed row = (most ≤ length listed) × All (λ x. IsTrue (is_ahead extreme x row)) listed

-- Rows that include the `most` first ones, in any order.
pub record AreFirst (extreme : Extreme) (most : ℕ) (selection : List Bool) (entries : List (Option ℤ)) (listed : List TopRow) : Type 0 where
  -- No row is listed twice.
  pub once : AllPairs (λ x y. x ≢ y) (map (λ row. row.row) listed)
  -- Each listed row is selected and has its number.
  pub had : All (IsRowOf selection entries) listed
  -- Enough rows are listed, if enough are selected.
  pub enough : most ≤ count_by (λ b. b) selection → most ≤ length listed
  -- A selected row that is not listed comes after all listed ones.
  pub first : (row : TopRow) → IsRowOf selection entries row → Contains listed row ⊎ IsAfterLongList extreme most listed row

-- The `most` first of the selected rows that have a number, or all of these rows if they are fewer.
pub record AreTop (extreme : Extreme) (most : ℕ) (selection : List Bool) (entries : List (Option ℤ)) (listed : List TopRow) : Type 0 where
  -- The rows are listed in order of number and, of equal numbers, in order of position.
  pub rise : AllPairs (λ x y. IsTrue (is_ahead extreme x y)) listed
  -- Each listed row is selected and has its number.
  pub had : All (IsRowOf selection entries) listed
  -- At most `most` rows are listed.
  pub few : length listed ≤ most
  -- A selected row with a number, if not listed, comes after all listed rows, and the list is full.
  pub first : (row : TopRow) → IsRowOf selection entries row → Contains listed row ⊎ IsAfterFullList extreme most listed row

-- Each selected row has a number.
abbrev pub HaveNumbers : List Bool → List (Option ℤ) → Type 0
HaveNumbers selection entries =
    (r : ℕ) → slice_index_or selection r false ≡ true → IsSome (slice_index_or entries r None)

-- The selected rows whose number compares with a bound as `op` says.
abbrev pub compared : Op → ℤ → List Bool → List (Option ℤ) → List Bool
compared op bound selection entries = zip2 ◌&&◌ (map (signed_selects op bound) entries) selection

-- The rows at given positions, with their numbers.
abbrev pub rows_at : List (Option ℤ) → List ℕ → List TopRow
rows_at entries positions =
    map (λ r. record { row = r; number = unwrap_or (slice_index_or entries r None) (pos 0) }) positions

-- The rank, from 0, of the first of `count` numbers that is not among the `most` first.
abbrev pub IsBoundRank : Extreme → ℕ → ℕ → ℕ → Type 0
IsBoundRank Greatest count most rank = rank + most + 1 ≡ count
IsBoundRank Least count most rank = rank ≡ most

-- The list has the numbers of the 64 rows of block `at`.
abbrev pub IsReadBlock : List (Option ℤ) → ℕ → List ℤ → Type 0
IsReadBlock entries at numbers =
    (r : ℕ) → r / 64 ≡ at → IfSome (slice_index_or entries r None) (λ number. slice_index_or numbers (r % 64) (pos 0) ≡ number)
