-- Words with a bit for each digit of a block: whether it satisfies the predicate of the word (`AreDigitMarks`).
use Rattle.std.specs.Prelude.{◌≡◌, ℕ, zero, suc, ◌+◌, ◌*◌, ◌<◌, ◌^◌, Bool, List, [], ◌∷◌, length, map, bit_or, slice_index}
use Rattle.std.specs.Int.{bit_at}
use Rattle.bsi_bits.specs.Packed.{bits_of}

-- bit k of word j is set where the predicate `holds j` is true of digit k of the block
pub record AreDigitMarks (holds : ℕ → ℕ → Bool) (block words : List ℕ) : Type 0 where
  pub each : (j : ℕ) → j < length words → bits_of (length block) (slice_index words j ∷ []) ≡ map (holds j) block
  pub clear : (j : ℕ) → slice_index words j < 2 ^ length block

-- the union of n words from word `at` on
abbrev pub union_of : List ℕ → ℕ → ℕ → ℕ
union_of words at zero = 0
union_of words at (suc n) = bit_or (union_of words at n) (slice_index words (at + n))

-- the number whose binary places are bit k of each word, the least place first
abbrev pub decoded : List ℕ → ℕ → ℕ
decoded [] k = 0
decoded (place ∷ places) k = bit_at place k + 2 * decoded places k
