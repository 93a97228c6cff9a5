-- Spans of words that are intersected with the rows of which a predicate holds (`AreNarrowed`), or set at just these
-- (`AreSelected`).
use Rattle.std.specs.Prelude.{◌≡◌, ℕ, ◌+◌, ◌*◌, ◌<◌, ◌&&◌, List, length}
use Rattle.bsi_bits.specs.Packed.{bit_of}
use Rattle.bsi_shift.specs.Shifted.{OffsetColumn}
use Rattle.bsi_rows.specs.declared.query.Pred.{Pred}
use Rattle.bsi_rows.specs.Rows.{holds}
use Rattle.bsi_table.specs.Encoded.{row_in}

-- the words from `at` on are intersected with the rows of which the predicate holds
abbrev pub AreNarrowed : List OffsetColumn → ℕ → Pred → ℕ → List ℕ → List ℕ → Type 0
AreNarrowed encoded rows pred at old now =
    (p : ℕ) → p < 64 * length old → 64 * at + p < rows
    → bit_of now p ≡ (bit_of old p && holds pred (row_in encoded (64 * at + p)))

-- the words from `at` on are set at the rows of which the predicate holds
abbrev pub AreSelected : List OffsetColumn → ℕ → Pred → ℕ → List ℕ → Type 0
AreSelected encoded rows pred at words =
    (p : ℕ) → p < 64 * length words → 64 * at + p < rows → bit_of words p ≡ holds pred (row_in encoded (64 * at + p))
