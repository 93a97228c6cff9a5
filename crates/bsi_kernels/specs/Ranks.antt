-- Which number has a given rank, from 0 in rising order, among the rows of a selection, and which of these rows have
-- that number (`IsRankedRows`).
use Rattle.std.specs.Prelude.{◌≡◌, ℕ, ◌+◌, ◌<◌, Bool, true, false, List, ◌&&◌, count_by, nat_eq, nat_lt, bit_and}
use Rattle.std.specs.Int.{bit_not, w64}
use Rattle.std.specs.Simd.Lanes.{zip2}

-- the rows of a word that are set in another word or, if the flag is false, clear in the other word
abbrev pub narrowed_word : Bool → ℕ → ℕ → ℕ
narrowed_word true word other = bit_and word other
narrowed_word false word other = bit_and word (bit_not w64 other)

-- the row of rank k, among the rows of a selection in order of their numbers
pub record IsRankedRows (k : ℕ) (selection : List Bool) (numbers : List ℕ) (number rank : ℕ) (rows : List Bool) : Type 0 where
  -- the rows of the selection that have the number of rank k
  pub rows_are : rows ≡ zip2 (λ f v. f && nat_eq v number) selection numbers
  -- the rank among the rows of the same number
  pub rank_is : k ≡ count_by (λ b. b) (zip2 (λ f v. f && nat_lt v number) selection numbers) + rank
  pub there : rank < count_by (λ b. b) rows
