-- One place of words that are written, cut or appended to.
use Rattle.std.proofs.Common.{◌≡◌, ◌≢◌, ℕ, ◌+◌, ◌-◌, ◌*◌, ◌/◌, ◌%◌, ◌^◌, ◌<◌, ◌≤◌, false, List, [], ◌∷◌, ◌++◌, length, get_or, set, inl, inr, ap, sym, ◌∙◌, arith, length-set}
use Rattle.std.specs.Prelude.{◌==◌, bit_and}
use Rattle.std.specs.Int.{bit_at}
use Rattle.std.proofs.lemmas.List.{get_or_past, get_or-set_same, get_or-set_other, get_or_append_left}
use Rattle.std.proofs.Math.Seq.{get_or-append_seam}
use Rattle.std.proofs.lemmas.Grind.{get_or_default_zero}
use Rattle.std.proofs.lemmas.Nat.{shr_split, pow_pos, mod_below, one_shl, and_mask}
use Rattle.std.proofs.lemmas.Bool.{cases_eq}
use Rattle.std.proofs.lemmas.Nat.Bits.{bit_at-zero, bit_at_above, bit_at_cat_low}
use Rattle.bsi_bits.specs.Packed.{bit_of, bits_of, IsPacked}
use Rattle.bsi_bits.proofs.Reading.{same_bits}

-- places past the last word are off
pub bit_past : (words : List ℕ) (i : ℕ) → length words ≤ i / 64 → bit_of words i ≡ false
bit_past words i past = ap (λ w. bit_at w (i % 64) == 1) (get_or_past words (i / 64) 0 past) ∙ ap (λ b. b == 1) (bit_at-zero (i % 64))

module _ (words : List ℕ) (q x : ℕ) where
  -- a place of the word that was written
  pub bit_in_written : q < length words → (i : ℕ) → i / 64 ≡ q → bit_of (set words q x) i ≡ (bit_at x (i % 64) == 1)
  bit_in_written within i in_word =
      ap (λ w. bit_at w (i % 64) == 1) (ap (λ k. get_or (set words q x) k 0) in_word ∙ get_or-set_same words q x 0 within)

  -- a place of another word
  pub bit_in_other : (i : ℕ) → i / 64 ≢ q → bit_of (set words q x) i ≡ bit_of words i
  bit_in_other i apart = ap (λ w. bit_at w (i % 64) == 1) (get_or-set_other words q (i / 64) x 0 apart)

-- a place of the words before one that was appended, and a place of that word
pub bit_before : (words : List ℕ) (x i : ℕ) → i / 64 < length words → bit_of (words ++ x ∷ []) i ≡ bit_of words i
bit_before words x i within = ap (λ w. bit_at w (i % 64) == 1) (get_or_append_left words (x ∷ []) 0 (i / 64) within)

pub bit_in_last : (words : List ℕ) (x i : ℕ) → i / 64 ≡ length words → bit_of (words ++ x ∷ []) i ≡ (bit_at x (i % 64) == 1)
bit_in_last words x i in_word =
    ap (λ w. bit_at w (i % 64) == 1) (ap (λ k. get_or (words ++ x ∷ []) k 0) in_word ∙ get_or-append_seam words x [] 0)

-- the low r places of a number are those of its remainder, and the others of that are off
pub bit_unchanged : (x r i : ℕ) → i < r → bit_at (x % 2 ^ r) i ≡ bit_at x i
bit_unchanged x r i below = sym (bit_at_cat_low (x / 2 ^ r) r (x % 2 ^ r) i below) ∙ ap (λ y. bit_at y i) (shr_split x r)

pub bit_dropped : (x r i : ℕ) → r ≤ i → bit_at (x % 2 ^ r) i ≡ 0
bit_dropped x r i from = bit_at_above (x % 2 ^ r) r i (mod_below x (2 ^ r) (pow_pos r)) from

-- words whose last word is cut to the places of the first n bits
module _ (words : List ℕ) (n : ℕ) (few : length words ≡ (n + 63) / 64) (partial : n % 64 ≢ 0) where
  abbrev pub cut_words : List ℕ
  cut_words = set words (n / 64) (get_or words (n / 64) 0 % 2 ^ (n % 64))

  pub cut_unchanged : (i : ℕ) → i < n → bit_of cut_words i ≡ bit_of words i
  cut_unchanged i below = elim (cases_eq (i / 64) (n / 64)) [
    | inl same ↦
        bit_in_written words (n / 64) (get_or words (n / 64) 0 % 2 ^ (n % 64)) (omega arith) i same
        ∙ ap (λ b. b == 1) (bit_unchanged (get_or words (n / 64) 0) (n % 64) (i % 64) (omega arith))
        ∙ ap (λ k. bit_at (get_or words k 0) (i % 64) == 1) (sym same)
    | inr apart ↦ bit_in_other words (n / 64) (get_or words (n / 64) 0 % 2 ^ (n % 64)) i apart
  ]

  pub cut_clear : (i : ℕ) → n ≤ i → bit_of cut_words i ≡ false
  cut_clear i past = elim (cases_eq (i / 64) (n / 64)) [
    | inl same ↦
        bit_in_written words (n / 64) (get_or words (n / 64) 0 % 2 ^ (n % 64)) (omega arith) i same
        ∙ ap (λ b. b == 1) (bit_dropped (get_or words (n / 64) 0) (n % 64) (i % 64) (omega arith))
    | inr apart ↦
        bit_in_other words (n / 64) (get_or words (n / 64) 0 % 2 ^ (n % 64)) i apart
        ∙ bit_past words i (omega arith)
  ]

  -- the cut word is the word and a mask of ones
  pub cut_by_mask : (x : ℕ) → x ≡ get_or words (n / 64) x → set words (n / 64) (bit_and x (1 * 2 ^ (n % 64) % 2 ^ 64 - 1)) ≡ cut_words
  cut_by_mask x last =
      let place : n % 64 < 64 = omega arith in
      let inside : n / 64 < length words = omega arith in
      ap (set words (n / 64)) (ap (λ m. bit_and x (m - 1)) (one_shl (n % 64) 64 place) ∙ and_mask x (n % 64) ∙ ap (λ y. y % 2 ^ (n % 64)) (last ∙ get_or_default_zero words (n / 64) x inside))

  pub cut_packed : n ≤ 2 ^ 32 → IsPacked n cut_words
  cut_packed within = record {
    within = within;
    few = length-set words (n / 64) (get_or words (n / 64) 0 % 2 ^ (n % 64)) ∙ few;
    clear = cut_clear;
  }

  pub cut_bits : bits_of n cut_words ≡ bits_of n words
  cut_bits = same_bits n cut_words words cut_unchanged
