-- The numbers of 64 rows of a column, read at once, with 0 for a null (`AreNumbersFrom`).
use Rattle.std.specs.Prelude.{◌≡◌, ℕ, ◌+◌, ◌<◌, List, Option, None, length, slice_index, slice_index_or}
use Rattle.bsi_bits.specs.BitList.{max_block}
use Rattle.bsi_digits.specs.Comparisons.{number_or_zero}

-- the numbers of the rows from a first row on, as far as there are rows, and 0 for a null
abbrev pub AreNumbersFrom : List (Option ℕ) → ℕ → List ℕ → Type 0
AreNumbersFrom entries first numbers =
    (r : ℕ) → r < max_block → first + r < length entries
    → slice_index numbers r ≡ number_or_zero (slice_index_or entries (first + r) None)
