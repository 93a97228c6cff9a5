-- The entries by which rows are grouped, and their order.
use Rattle.std.specs.Prelude.{◌≡◌, ◌&&◌, ℤ, Bool, true, false, not, List, [], Option, Some, None, MatchOption, All, Contains, int_lt, is_none, map, IsTrue}
use Rattle.std.specs.Simd.Lanes.{zip2}
use Rattle.bsi_digits.specs.declared.op.Op.TheVariants.{Eq}
use Rattle.bsi_digits.specs.WholeNumbers.{signed_selects}

-- A row's entry is the given one.
abbrev pub is_entry : Option ℤ → Option ℤ → Bool
is_entry (Some n) entry = signed_selects Eq n entry
is_entry None entry = is_none entry

-- Numbers in their order, and null after all numbers.
abbrev pub comes_before : Option ℤ → Option ℤ → Bool
comes_before (Some x) (Some y) = int_lt x y
comes_before (Some x) None = true
comes_before None entry = false

-- A member of the list before which no other member comes.
pub record IsFirst (entries : List (Option ℤ)) (first : Option ℤ) : Type 0 where
  pub member : Contains entries first
  pub none_before : All (λ entry. IsTrue (not (comes_before entry first))) entries

-- The first entry of a list, or none if the list is empty.
abbrev pub IsFirstOf : List (Option ℤ) → Option (Option ℤ) → Type 0
IsFirstOf entries answer = MatchOption answer (entries ≡ []) (IsFirst entries)

-- The selected rows that have a given entry, by the list of the entries of the column.
abbrev pub rows_having : List (Option ℤ) → List Bool → Option ℤ → List Bool
rows_having entries selection entry = zip2 ◌&&◌ (map (is_entry entry) entries) selection
