-- The extreme, which is the least or the greatest, of the numbers of some rows (`IsExtremeAmong`), and which numbers
-- improve the best one so far (`improves`).
use Rattle.std.specs.Prelude.{◌≡◌, ℕ, ◌<◌, ◌≤◌, Bool, true, false, not, Option, Some, None, MatchOption}
use Rattle.bsi_bits.specs.SetRows.{HasValue}
use Rattle.bsi_kernels.specs.Places.{bit_value}
use Rattle.bsi_digits.specs.declared.extreme.Extreme.{Extreme}
use Rattle.bsi_digits.specs.declared.extreme.Extreme.TheVariants.{Least, Greatest}

-- whether a clear binary place is better than a set one
abbrev pub clear_is_better : Extreme → Bool
clear_is_better Least = true
clear_is_better Greatest = false

-- the best binary place among some rows, given whether one of the rows has the better place
abbrev pub best_place : Extreme → Bool → ℕ
best_place Least is_met = bit_value (not is_met)
best_place Greatest is_met = bit_value is_met

-- a is no worse than b: a ≤ b in a search for the least number, b ≤ a in one for the greatest
abbrev pub is_no_worse : Extreme → ℕ → ℕ → Type 0
is_no_worse Least a b = a ≤ b
is_no_worse Greatest a b = b ≤ a

-- the best number so far is no worse than x; false if there is no best number so far
abbrev pub best_is_no_worse : Extreme → Option ℕ → ℕ → Type 0
best_is_no_worse extreme None x = ⊥
best_is_no_worse extreme (Some best) x = is_no_worse extreme best x

-- a is better than b: a < b in a search for the least number, b < a in one for the greatest
abbrev pub is_better : Extreme → ℕ → ℕ → Type 0
is_better Least a b = a < b
is_better Greatest a b = b < a

-- x is better than the best number so far, or there is no best number so far
abbrev pub improves : Extreme → ℕ → Option ℕ → Type 0
improves extreme x None = Unit {0}
improves extreme x (Some best) = is_better extreme x best

-- m is the extreme of the numbers of the set rows among n
pub record IsExtremeAmong (extreme : Extreme) (rows : ℕ → Bool) (number : ℕ → ℕ) (n m : ℕ) : Type 0 where
  pub member : HasValue rows number n m
  pub first : (p : ℕ) → p < n → rows p ≡ true → is_no_worse extreme m (number p)

-- the answer is the extreme of the set rows among n, which improves the best number so far; none if no set row
-- improves the best
abbrev pub IsImprovement : Extreme → (ℕ → Bool) → (ℕ → ℕ) → ℕ → Option ℕ → Option ℕ → Type 0
IsImprovement extreme rows number n best answer =
    MatchOption answer ((p : ℕ) → p < n → rows p ≡ true → best_is_no_worse extreme best (number p))
    (λ m. IsExtremeAmong extreme rows number n m × improves extreme m best)
