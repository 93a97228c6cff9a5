-- Comparisons of the numbers of two columns, row by row.
use Rattle.std.specs.Prelude.{◌≡◌, ℕ, ◌+◌, ◌*◌, ◌<◌, ◌&&◌, Bool, false, List, length, Option, Some, None, slice_index_or}
use Rattle.bsi_bits.specs.Packed.{bit_of}
use Rattle.bsi_digits.specs.Comparisons.{compares}
use Rattle.bsi_slices.specs.declared.slices.related.ColumnComparison.{ColumnComparison}

-- two numbers compare as the comparison says, after its addends are added
abbrev pub compares_numbers : ColumnComparison → ℕ → ℕ → Bool
compares_numbers comparison x y = compares comparison.op (x + comparison.left_addend) (y + comparison.right_addend)

-- both entries are numbers, and compare as the comparison says
abbrev pub compares_entries : ColumnComparison → Option ℕ → Option ℕ → Bool
compares_entries comparison (Some x) (Some y) = compares_numbers comparison x y
compares_entries comparison first second = false

-- the words from `at` on are intersected with the rows whose entries in two columns compare as the comparison says
abbrev pub AndsComparedRows : ColumnComparison → List (Option ℕ) → List (Option ℕ) → ℕ → List ℕ → List ℕ → Type 0
AndsComparedRows comparison first second at old now =
    (p : ℕ) → p < 64 * length old
    → bit_of now p ≡ (bit_of old p && compares_entries comparison (slice_index_or first (64 * at + p) None) (slice_index_or second (64 * at + p) None))
