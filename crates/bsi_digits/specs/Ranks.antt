-- Which of some whole numbers has a given rank: its position in rising order, from 0 (`IsSignedRanked`).
use Rattle.std.specs.Prelude.{ℕ, ℤ, ◌<◌, ◌≤◌, List, Option, MatchOption, count_by, int_le, int_lt, length}

-- m is the number of a rank, from 0: no more numbers than the rank are below m, and more are at most m
abbrev pub IsSignedRanked : ℕ → List ℤ → ℤ → Type 0
IsSignedRanked rank numbers m =
    (count_by (λ n. int_lt n m) numbers ≤ rank) × (rank < count_by (λ n. int_le n m) numbers)

-- the answer is the number of the rank, or none if the rank is past the last number
abbrev pub IsSignedRankOf : ℕ → List ℤ → Option ℤ → Type 0
IsSignedRankOf rank numbers answer = MatchOption answer (length numbers ≤ rank) (IsSignedRanked rank numbers)
