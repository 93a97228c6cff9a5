-- What a contract sees of a component (`Component`): base, digits and room; then counts and ranks of digits.
use Rattle.std.specs.Prelude.{◌≡◌, ℕ, ◌+◌, ◌<◌, Bool, List, ◌&&◌, count_by, nat_lt, nat_le}
use Rattle.std.specs.Simd.Lanes.{zip2}
use Rattle.bsi_components.specs.declared.ranked_digit.RankedDigit.{RankedDigit}

-- what a contract sees of a component: its base, its digits, and for how many more digits there is room
pub record Component : Type 0 where
  pub base : ℕ
  pub digits : List ℕ
  pub room : ℕ

-- the number of rows of a selection whose digit passes the test
abbrev pub count_where : (ℕ → Bool) → List Bool → List ℕ → ℕ
count_where p selection digits = count_by (λ b. b) (zip2 (λ f digit. f && p digit) selection digits)

-- the digit of the row of a rank, among the rows of a selection in order of their digits; and the rank of the row among
-- the rows of that digit
pub record IsRankedDigit (rank : ℕ) (selection : List Bool) (digits : List ℕ) (ranked : RankedDigit) : Type 0 where
  pub rank_is : rank ≡ count_where (λ v. nat_lt v ranked.digit) selection digits + ranked.rank
  pub there : rank < count_where (λ v. nat_le v ranked.digit) selection digits
