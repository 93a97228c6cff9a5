-- The words of a state, and what a binary place more makes of them.
use Rattle.std.proofs.Common.{◌≡◌, ℕ, ◌+◌, ◌*◌, ◌/◌, ◌%◌, ◌<◌, Bool, true, false, ◌&&◌, ◌||◌, List, length, get_or, set, take, inl, inr, ap, ap₂, ◌∙◌, refl, arith, length-take}
use Rattle.std.specs.Prelude.{◌==◌, bit_and, bit_or, bit_xor, replicate, if◌then◌else◌}
use Rattle.std.specs.Int.{bit_at}
use Rattle.std.proofs.lemmas.Bool.{cases_lt}
use Rattle.std.proofs.lemmas.List.{get_or_past, get_or-replicate, get_or-set_same, get_or-set_other, get_or-take, length-replicate}
use Rattle.bsi_bits.specs.BitList.{differ}
use Rattle.bsi_bits.specs.Packed.{bit_of}
use Rattle.bsi_bits.proofs.Logic.{and_bitwise, or_bitwise, xor_bitwise}
use Rattle.bsi_bits.proofs.Reading.{none_set}

-- the bit of a row, in the word where it stands
pub word_bit : (words : List ℕ) (at r : ℕ) → r < 64 → (bit_at (get_or words at 0) r == 1) ≡ bit_of words (64 * at + r)
word_bit words at r near =
    let word : at ≡ (64 * at + r) / 64 = omega arith in
    let place : r ≡ (64 * at + r) % 64 = omega arith in
    ap₂ (λ i p. bit_at (get_or words i 0) p == 1) word place

-- one word more is written
pub word_more : (P : ℕ → Bool) (words : List ℕ) (k word : ℕ) → k < length words → ((r : ℕ) → r < 64 → (bit_at word r == 1) ≡ P (64 * k + r))
    → ((p : ℕ) → p < 64 * k → bit_of words p ≡ P p) → (p : ℕ) → p < 64 * (k + 1) → bit_of (set words k word) p ≡ P p
word_more P words k word within is done p below = elim (cases_lt p (64 * k)) [
  | inl before ↦ ap (λ w. bit_at w (p % 64) == 1) (get_or-set_other words k (p / 64) word 0 (omega arith)) ∙ done p before
  | inr past ↦
      let here : p / 64 ≡ k = omega arith in
      let place : 64 * k + p % 64 ≡ p = omega arith in
      ap (λ i. bit_at (get_or (set words k word) i 0) (p % 64) == 1) here
      ∙ ap (λ w. bit_at w (p % 64) == 1) (get_or-set_same words k word 0 within)
      ∙ is (p % 64) (omega arith) ∙ ap P place
]

module _ (x y r : ℕ) (near : r < 64) where
  abbrev a : Bool
  a = bit_at x r == 1

  abbrev b : Bool
  b = bit_at y r == 1

  -- the second place where the two differ
  pub lower_bit : (was : ℕ) → (bit_at (bit_xor was (bit_and (bit_xor x y) (bit_xor was y))) r == 1) ≡ (if differ a b then b else bit_at was r == 1)
  lower_bit was =
      xor_bitwise.at was (bit_and (bit_xor x y) (bit_xor was y)) r tt near
      ∙ ap (differ (bit_at was r == 1))
      (and_bitwise.at (bit_xor x y) (bit_xor was y) r tt near ∙ ap₂ ◌&&◌ (xor_bitwise.at x y r tt near) (xor_bitwise.at was y r tt near))
      ∙ by (bit_at was r == 1) a b
    where
      by : (w a b : Bool) → differ w (differ a b && differ w b) ≡ (if differ a b then b else w)
      by true true true = refl
      by true true false = refl
      by true false true = refl
      by true false false = refl
      by false true true = refl
      by false true false = refl
      by false false true = refl
      by false false false = refl

  pub unlike_bit : (was : ℕ) → (bit_at (bit_or was (bit_xor x y)) r == 1) ≡ ((bit_at was r == 1) || differ a b)
  unlike_bit was = or_bitwise.at was (bit_xor x y) r tt near ∙ ap (◌||◌ (bit_at was r == 1)) (xor_bitwise.at x y r tt near)

  -- a place of a sum, and the carry out of it
  module _ (addend : ℕ) (is_one : Bool) (all : (bit_at addend r == 1) ≡ is_one) where
    pub sum_bit : (bit_at (bit_xor (bit_xor x y) addend) r == 1) ≡ differ (differ a b) is_one
    sum_bit = xor_bitwise.at (bit_xor x y) addend r tt near ∙ ap₂ differ (xor_bitwise.at x y r tt near) all

    pub carry_bit : (bit_at (bit_or (bit_and x y) (bit_and (bit_or x y) addend)) r == 1) ≡ (if is_one then a || b else a && b)
    carry_bit =
        or_bitwise.at (bit_and x y) (bit_and (bit_or x y) addend) r tt near
        ∙ ap₂ ◌||◌ (and_bitwise.at x y r tt near) (and_bitwise.at (bit_or x y) addend r tt near ∙ ap₂ ◌&&◌ (or_bitwise.at x y r tt near) all)
        ∙ by a b is_one
      where
        by : (a b one : Bool) → ((a && b) || ((a || b) && one)) ≡ (if one then a || b else a && b)
        by true true true = refl
        by true true false = refl
        by true false true = refl
        by true false false = refl
        by false true true = refl
        by false true false = refl
        by false false true = refl
        by false false false = refl

-- words without a row
pub no_row : (n p : ℕ) → bit_of (replicate n 0) p ≡ false
no_row n p = elim (cases_lt (p / 64) n) [
  | inl inside ↦ ap (λ w. bit_at w (p % 64) == 1) (get_or-replicate n (p / 64) 0 0 inside) ∙ none_set (p % 64) (omega arith)
  | inr past ↦ ap (λ w. bit_at w (p % 64) == 1) (get_or_past (replicate n 0) (p / 64) 0 (let long : length {A = ℕ} (replicate n 0) ≡ n = length-replicate {A = ℕ} n 0 in omega (arith, past, long))) ∙ none_set (p % 64) (omega arith)
]

-- and the first n of them
pub no_row_in_prefix : (n : ℕ) (words : List ℕ) → ((p : ℕ) → bit_of words p ≡ false) → (p : ℕ) → bit_of (take n words) p ≡ false
no_row_in_prefix n words none p = elim (cases_lt (p / 64) n) [
  | inl inside ↦ ap (λ w. bit_at w (p % 64) == 1) (get_or-take n words (p / 64) 0 inside) ∙ none p
  | inr past ↦ ap (λ w. bit_at w (p % 64) == 1) (get_or_past (take n words) (p / 64) 0 (omega (arith, past, length-take n words))) ∙ none_set (p % 64) (omega arith)
]
