-- The least or greatest number at the rows of a selection (`IsExtremeOf`), and at its first n rows (`IsExtremeUpto`).
use Rattle.std.specs.Prelude.{◌≡◌, ℕ, ◌<◌, ◌&&◌, Bool, false, List, Option, None, MatchOption, is_some, slice_index_or}
use Rattle.bsi_digits.specs.Comparisons.{number_or_zero}
use Rattle.bsi_digits.specs.Totals.{IsLeastOf, IsGreatestOf}
use Rattle.bsi_digits.specs.declared.extreme.Extreme.{Extreme}
use Rattle.bsi_digits.specs.declared.extreme.Extreme.TheVariants.{Least, Greatest}
pub use Rattle.bsi_kernels.specs.Extremes.{clear_is_better, best_place, is_no_worse, is_better, best_is_no_worse, improves, IsExtremeAmong, IsImprovement}

-- the answer is the extreme, or none if there is no number
abbrev pub IsExtremeOf : Extreme → List ℕ → Option ℕ → Type 0
IsExtremeOf Least numbers answer = IsLeastOf numbers answer
IsExtremeOf Greatest numbers answer = IsGreatestOf numbers answer

-- the number of row r, and 0 for a null
abbrev pub number_at : List (Option ℕ) → ℕ → ℕ
number_at entries r = number_or_zero (slice_index_or entries r None)

-- row r is selected, and has a number
abbrev pub has_number : List Bool → List (Option ℕ) → ℕ → Bool
has_number selection entries r = slice_index_or selection r false && is_some (slice_index_or entries r None)

-- the extreme of the first n rows of a selection, or none if none of the rows has a number
abbrev pub IsExtremeUpto : Extreme → List Bool → List (Option ℕ) → ℕ → Option ℕ → Type 0
IsExtremeUpto extreme selection entries n answer =
    MatchOption answer ((r : ℕ) → r < n → has_number selection entries r ≡ false)
    (IsExtremeAmong extreme (has_number selection entries) (number_at entries) n)
