-- Words that are intersected, span by span, with the rows of a column that pass a test.
use Rattle.std.specs.Prelude.{◌≡◌, ℕ, ◌+◌, ◌*◌, ◌<◌, ◌&&◌, Bool, List, length, slice_index_or, Option, None}
use Rattle.bsi_bits.specs.Packed.{bit_of}
pub use Rattle.bsi_kernels.specs.Spans.{max_lanes, IsIntersected}

-- the words from `at` on are intersected with the rows whose entry passes; a bit past the last row counts as a null
abbrev pub AndsRows : {X : Type 0} → (Option X → Bool) → List (Option X) → ℕ → List ℕ → List ℕ → Type 0
AndsRows passes entries at old now =
    (p : ℕ) → p < 64 * length old
    → bit_of now p ≡ (bit_of old p && passes (slice_index_or entries (64 * at + p) None))
