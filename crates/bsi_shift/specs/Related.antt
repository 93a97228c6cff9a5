-- Words that are intersected with the rows whose numbers in two columns compare as an operator says (`AndsCompared`).
use Rattle.std.specs.Prelude.{◌≡◌, ℕ, ◌+◌, ◌*◌, ◌<◌, ◌&&◌, ℤ, List, Option, None, length, slice_index_or}
use Rattle.bsi_bits.specs.Packed.{bit_of}
use Rattle.bsi_digits.specs.WholeNumbers.{signed_relates}
use Rattle.bsi_digits.specs.declared.op.Op.{Op}

-- the words from `at` on are intersected with the rows whose entries in two columns compare as the operator says; a bit
-- past the last row counts as a null
abbrev pub AndsCompared : Op → List (Option ℤ) → List (Option ℤ) → ℕ → List ℕ → List ℕ → Type 0
AndsCompared op first second at old now =
    (p : ℕ) → p < 64 * length old
    → bit_of now p ≡ (bit_of old p && signed_relates op (slice_index_or first (64 * at + p) None) (slice_index_or second (64 * at + p) None))
