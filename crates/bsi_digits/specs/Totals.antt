-- The least, the greatest and the lower median of natural numbers, and the number of a given rank, its position in
-- rising order from 0 (`IsRanked`).
use Rattle.std.specs.Prelude.{ℕ, ◌<◌, ◌≤◌, List, Option, count_by, nat_lt, nat_le}
use Rattle.bsi_digits.specs.Orders.{IsLeastBy, IsGreatestBy, IsLowerMedianBy, IsNoneOr}
use Rattle.bsi_digits.specs.Comparisons.{number_order}

-- a least number: no number is below the least
abbrev pub IsLeast : List ℕ → ℕ → Type 0
IsLeast = IsLeastBy number_order

-- a greatest number: no number is above the greatest
abbrev pub IsGreatest : List ℕ → ℕ → Type 0
IsGreatest = IsGreatestBy number_order

-- the lower median: at least half of the numbers are at most this one, and fewer than half are below it
abbrev pub IsLowerMedian : List ℕ → ℕ → Type 0
IsLowerMedian = IsLowerMedianBy number_order

-- m is the number of a rank, from 0: no more numbers than the rank are below m, and more are at most m
pub record IsRanked (numbers : List ℕ) (rank m : ℕ) : Type 0 where
  pub low : count_by (λ n. nat_lt n m) numbers ≤ rank
  pub high : rank < count_by (λ n. nat_le n m) numbers

-- the answer is the least number, or none if there is no number
abbrev pub IsLeastOf : List ℕ → Option ℕ → Type 0
IsLeastOf = IsNoneOr IsLeast

-- the answer is the greatest number, or none if there is no number
abbrev pub IsGreatestOf : List ℕ → Option ℕ → Type 0
IsGreatestOf = IsNoneOr IsGreatest

-- the answer is the lower median, or none if there is no number
abbrev pub IsMedianOf : List ℕ → Option ℕ → Type 0
IsMedianOf = IsNoneOr IsLowerMedian
