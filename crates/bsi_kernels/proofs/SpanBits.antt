-- Steps on a span of words, bit by bit, by the words of a bitmap.
use Rattle.std.proofs.Common.{◌≡◌, ℕ, ◌+◌, ◌-◌, ◌*◌, ◌/◌, ◌%◌, ◌^◌, ◌<◌, ◌≤◌, Bool, true, not, List, length, get_or, map, replicate, ap, sym, ◌∙◌, arith}
use Rattle.std.specs.Prelude.{◌==◌, ◌||◌, bit_or, max}
use Rattle.std.specs.Int.{bit_at, bit_not, w64}
use Rattle.std.specs.Simd.Lanes.{zip2, chunk}
use Rattle.std.proofs.lemmas.Simd.{get_or-zip2, get_or-chunk, length-chunk, length-zip2}
use Rattle.std.proofs.lemmas.List.{get_or-map, get_or-replicate}
use Rattle.std.proofs.lemmas.Nat.Bits.{bit_at_or, bit_at_not, bit_at-lt}
use Rattle.bsi_bits.specs.Packed.{bit_of}
pub use Rattle.bsi_bits.proofs.InWords.{bit_of-chunk}
use Rattle.bsi_bits.proofs.Reading.{all_set}
use Rattle.std.proofs.lemmas.Bool.Decides.{nat_tests}

-- a place of words of ones
pub ones_bit : (n p : ℕ) → p < 64 * n → bit_of (replicate n (2 ^ 64 - 1)) p ≡ true
ones_bit n p within = ap (λ w. bit_at w (p % 64) == 1) (get_or-replicate n (p / 64) (2 ^ 64 - 1) 0 (omega arith)) ∙ all_set (p % 64) (omega arith)

-- a place of a span after a step with the words from `at` on, by what the step makes of two bits
module _ (IsFit : ℕ → Type 0) (word_of : ℕ → ℕ → ℕ) (bit : Bool → Bool → Bool)
    (each : (x y i : ℕ) → IsFit y → i < 64 → (bit_at (word_of x y) i == 1) ≡ bit (bit_at x i == 1) (bit_at y i == 1))
    (span words : List ℕ) (fit : (k : ℕ) → IsFit (get_or words k 0)) (at n : ℕ) (same : n ≡ length span) (within : at + n ≤ length words) where
  pub stepped_place : (p : ℕ) → p < 64 * length span → bit_of (zip2 word_of span (chunk at n words)) p ≡ bit (bit_of span p) (bit_of words (64 * at + p))
  stepped_place p below =
      let long : length (chunk at n words) ≡ n = length-chunk at n words (omega arith) in
      let in_span : p / 64 < length span = omega arith in
      let in_words : p / 64 < length (chunk at n words) = omega arith in
      let read = get_or-chunk at n words (p / 64) 0 (omega arith) in
      ap (λ w. bit_at w (p % 64) == 1) (get_or-zip2 word_of span (chunk at n words) (p / 64) 0 0 0 in_span in_words ∙ ap (word_of (get_or span (p / 64) 0)) read)
      ∙ each (get_or span (p / 64) 0) (get_or words (at + p / 64) 0) (p % 64) (fit (at + p / 64)) (omega arith)
      ∙ ap (bit (bit_of span p)) (ap (λ w. bit_at w (p % 64) == 1) (sym read) ∙ bit_of-chunk at n words p (omega arith))

  -- and the span is as long as it was
  pub stepped_length : length (zip2 word_of span (chunk at n words)) ≡ length span
  stepped_length = length-zip2 word_of span (chunk at n words) (sym same ∙ sym (length-chunk at n words (omega arith)))

missing_digit : (a b : ℕ) → a < 2 → b < 2 → (max a (1 - b) == 1) ≡ ((a == 1) || not (b == 1))
missing_digit a b low high = grind (arith, nat_tests)

-- a step that sets the bits that are not set in a word
pub or_not_digit : (x y i : ℕ) → y < 2 ^ 64 → i < 64 → (bit_at (bit_or x (bit_not w64 y)) i == 1) ≡ ((bit_at x i == 1) || not (bit_at y i == 1))
or_not_digit x y i fits place =
    ap (λ b. b == 1) (bit_at_or x (bit_not w64 y) i ∙ ap (max (bit_at x i)) (bit_at_not w64 y i fits place))
    ∙ missing_digit (bit_at x i) (bit_at y i) (bit_at-lt x i) (bit_at-lt y i)

turned_digit : (a : ℕ) → a < 2 → (1 - a == 1) ≡ not (a == 1)
turned_digit a low = grind (arith, nat_tests)

-- a place of a span whose words are turned
pub turned_place : (span : List ℕ) → ((k : ℕ) → get_or span k 0 < 2 ^ 64) → (p : ℕ) → p < 64 * length span → bit_of (map (bit_not w64) span) p ≡ not (bit_of span p)
turned_place span fits p below =
    ap (λ w. bit_at w (p % 64) == 1) (get_or-map (bit_not w64) span (p / 64) 0 0 (omega arith))
    ∙ ap (λ b. b == 1) (bit_at_not w64 (get_or span (p / 64) 0) (p % 64) (fits (p / 64)) (omega arith))
    ∙ turned_digit (bit_at (get_or span (p / 64) 0) (p % 64)) (bit_at-lt (get_or span (p / 64) 0) (p % 64))
