-- How many ones carry-save adders have added up, by the words of binary places that they store.
use Rattle.std.specs.Prelude.{ℕ, ◌+◌, ◌*◌, List, sum_by, count_ones}

-- the number of added ones, by the words of the three least binary places of their counts
abbrev pub added_ones : List ℕ → List ℕ → List ℕ → ℕ
added_ones ones twos fours = sum_by count_ones ones + 2 * sum_by count_ones twos + 4 * sum_by count_ones fours
