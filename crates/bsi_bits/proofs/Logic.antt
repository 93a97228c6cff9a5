-- A Boolean operation on words, bit by bit, and on the lists of bits that they hold.
use Rattle.std.proofs.Common.{◌≡◌, ℕ, ◌+◌, ◌-◌, ◌*◌, ◌/◌, ◌%◌, ◌^◌, ◌<◌, ◌≤◌, Bool, false, List, ◌++◌, length, get_or, take, drop, map, subst, inl, inr, ap, ap₂, sym, ◌∙◌, refl, arith}
use Rattle.std.specs.Prelude.{◌==◌, ◌&&◌, ◌||◌, not, bit_and, bit_or, bit_xor, min, max}
use Rattle.std.specs.Int.{bit_at, bit_not, w64}
use Rattle.std.specs.Simd.Lanes.{zip2}
use Rattle.std.proofs.lemmas.Simd.{length-zip2, get_or-zip2}
use Rattle.std.proofs.lemmas.List.{length-map, get_or-map, take_all, take-append-le}
use Rattle.std.proofs.lemmas.Bool.{cases_lt}
use Rattle.std.proofs.lemmas.Bool.Decides.{nat_tests}
use Rattle.std.proofs.lemmas.Nat.Bits.{bit_at_and, bit_at_or, bit_at_xor, bit_at_not, bit_at-lt}
use Rattle.bsi_bits.specs.BitList.{differ, without}
use Rattle.bsi_bits.specs.Packed.{bit_of, bits_of, IsPacked}
use Rattle.bsi_bits.proofs.Reading.{length-bits_of, get_or-bits_of, bits_are}
use Rattle.bsi_bits.proofs.Places.{bit_past}

-- the operation of words, the second of which is fit for it, is that of bits at each place
pub record IsBitwise (IsFit : ℕ → Type 0) (word_of : ℕ → ℕ → ℕ) (bit : Bool → Bool → Bool) : Type 0 where
  pub at : (x y i : ℕ) → IsFit y → i < 64 → (bit_at (word_of x y) i == 1) ≡ bit (bit_at x i == 1) (bit_at y i == 1)
  pub none : bit false false ≡ false

both_digits : (a b : ℕ) → a < 2 → b < 2 → (min a b == 1) ≡ ((a == 1) && (b == 1))
both_digits a b low high = grind (arith, nat_tests)

either_digit : (a b : ℕ) → a < 2 → b < 2 → (max a b == 1) ≡ ((a == 1) || (b == 1))
either_digit a b low high = grind (arith, nat_tests)

one_digit : (a b : ℕ) → a < 2 → b < 2 → ((a + b) % 2 == 1) ≡ differ (a == 1) (b == 1)
one_digit a b low high = grind (arith, nat_tests)

first_digit : (a b : ℕ) → a < 2 → b < 2 → (min a (1 - b) == 1) ≡ without (a == 1) (b == 1)
first_digit a b low high = grind (arith, nat_tests)

turned_digit : (a : ℕ) → a < 2 → (1 - a == 1) ≡ not (a == 1)
turned_digit a low = grind (arith, nat_tests)

pub and_bitwise : IsBitwise (λ _. Unit {0}) bit_and ◌&&◌
and_bitwise = record {
  at = λ x y i fits place. ap (λ b. b == 1) (bit_at_and x y i) ∙ both_digits (bit_at x i) (bit_at y i) (bit_at-lt x i) (bit_at-lt y i);
  none = refl;
}

pub or_bitwise : IsBitwise (λ _. Unit {0}) bit_or ◌||◌
or_bitwise = record {
  at = λ x y i fits place. ap (λ b. b == 1) (bit_at_or x y i) ∙ either_digit (bit_at x i) (bit_at y i) (bit_at-lt x i) (bit_at-lt y i);
  none = refl;
}

pub xor_bitwise : IsBitwise (λ _. Unit {0}) bit_xor differ
xor_bitwise = record {
  at = λ x y i fits place. ap (λ b. b == 1) (bit_at_xor x y i) ∙ one_digit (bit_at x i) (bit_at y i) (bit_at-lt x i) (bit_at-lt y i);
  none = refl;
}

pub and_not_bitwise : IsBitwise (λ y. y < 2 ^ 64) (λ x y. bit_and x (bit_not w64 y)) without
and_not_bitwise = record {
  at = λ x y i fits place.
      ap (λ b. b == 1) (bit_at_and x (bit_not w64 y) i ∙ ap (min (bit_at x i)) (bit_at_not w64 y i fits place))
      ∙ first_digit (bit_at x i) (bit_at y i) (bit_at-lt x i) (bit_at-lt y i);
  none = refl;
}

module _ (IsFit : ℕ → Type 0) (word_of : ℕ → ℕ → ℕ) (bit : Bool → Bool → Bool) (bitwise : IsBitwise IsFit word_of bit)
    (n : ℕ) (words others : List ℕ) (packed : IsPacked n words) (other_packed : IsPacked n others) (fit : (k : ℕ) → IsFit (get_or others k 0)) where
  same_length : length words ≡ length others
  same_length = packed.few ∙ sym other_packed.few

  zipped_place : (i : ℕ) → bit_of (zip2 word_of words others) i ≡ bit (bit_of words i) (bit_of others i)
  zipped_place i = elim (cases_lt (i / 64) (length words)) [
    | inl within ↦
        ap (λ w. bit_at w (i % 64) == 1) (get_or-zip2 word_of words others (i / 64) 0 0 0 within (omega (arith, same_length)))
        ∙ bitwise.at (get_or words (i / 64) 0) (get_or others (i / 64) 0) (i % 64) (fit (i / 64)) (omega arith)
    | inr past ↦
        bit_past (zip2 word_of words others) i (omega (arith, length-zip2 word_of words others same_length))
        ∙ sym bitwise.none ∙ ap₂ bit (sym (bit_past words i past)) (sym (bit_past others i (omega (arith, same_length))))
  ]

  -- the words of the pairs are packed
  pub zipped_packed : IsPacked n (zip2 word_of words others)
  zipped_packed = record {
    within = packed.within;
    few = length-zip2 word_of words others same_length ∙ packed.few;
    clear = λ i past. zipped_place i ∙ ap₂ bit (packed.clear i past) (other_packed.clear i past) ∙ bitwise.none;
  }

  -- and hold the bits of the pairs
  pub zipped_bits : bits_of n (zip2 word_of words others) ≡ zip2 bit (bits_of n words) (bits_of n others)
  zipped_bits =
      let long = length-bits_of n words in
      let other_long = length-bits_of n others in
      sym (bits_are n (zip2 word_of words others) (zip2 bit (bits_of n words) (bits_of n others))
      (length-zip2 bit (bits_of n words) (bits_of n others) (long ∙ sym other_long) ∙ long)
      (λ i below.
      get_or-zip2 bit (bits_of n words) (bits_of n others) i false false false (omega arith) (omega arith)
      ∙ ap₂ bit (get_or-bits_of n words i false below) (get_or-bits_of n others i false below)
      ∙ sym (zipped_place i)))

-- a slice written over a whole vector is what it holds
pub written : (len : ℕ) (new old : List ℕ) → length old ≡ len → length new ≡ len → take len (new ++ drop (length new) old) ≡ new
written len new old long new_long =
    take-append-le len new (drop (length new) old) (omega arith) ∙ take_all len new (omega arith)

-- two vectors of as many bits, whose words a kernel combined into the first
module _ (n m : ℕ) (words others : List ℕ) (packed : IsPacked n words) (other_packed : IsPacked m others) (same : length (bits_of n words) ≡ length (bits_of m others)) where
  pub same_len : m ≡ n
  same_len = sym (length-bits_of m others) ∙ sym same ∙ length-bits_of n words

  pub other_fits : IsPacked n others
  other_fits = subst (λ (k : ℕ). IsPacked k others) same_len other_packed

  -- both have as many words
  pub same_words : length words ≡ length others
  same_words = packed.few ∙ sym other_fits.few

  module _ (IsFit : ℕ → Type 0) (word_of : ℕ → ℕ → ℕ) (bit : Bool → Bool → Bool) (bitwise : IsBitwise IsFit word_of bit) (fit : (k : ℕ) → IsFit (get_or others k 0)) where
    -- the bits of the pairs of words are the pairs of bits
    pub paired_bits : bits_of n (zip2 word_of words others) ≡ zip2 bit (bits_of n words) (bits_of m others)
    paired_bits =
        zipped_bits IsFit word_of bit bitwise n words others packed other_fits fit
        ∙ ap (λ k. zip2 bit (bits_of n words) (bits_of k others)) (sym same_len)

    module _ (len : ℕ) (long : len ≡ length words) (a b new : List ℕ) (a_is : a ≡ words) (b_is : b ≡ others) (combined : new ≡ zip2 word_of a b) where
      stored : take len (new ++ drop (length new) words) ≡ zip2 word_of words others
      stored =
          let made : new ≡ zip2 word_of words others = combined ∙ ap₂ (zip2 word_of) a_is b_is in
          written len new words (sym long) (ap length made ∙ length-zip2 word_of words others same_words ∙ sym long) ∙ made

      pub combined_packed : IsPacked n (take len (new ++ drop (length new) words))
      combined_packed = rw stored (zipped_packed IsFit word_of bit bitwise n words others packed other_fits fit)

      pub combined_bits : bits_of n (take len (new ++ drop (length new) words)) ≡ zip2 bit (bits_of n words) (bits_of m others)
      combined_bits = rw stored paired_bits

-- the complement of each word holds the bits turned, before the places past the end are cleared
pub turned_bits : (n : ℕ) (words : List ℕ) → n ≤ 64 * length words → ((k : ℕ) → get_or words k 0 < 2 ^ 64) → bits_of n (map (bit_not w64) words) ≡ map not (bits_of n words)
turned_bits n words enough fits =
    let long = length-bits_of n words in
    sym (bits_are n (map (bit_not w64) words) (map not (bits_of n words)) (length-map (bits_of n words) not ∙ long) (λ i below.
    get_or-map not (bits_of n words) i false false (omega arith)
    ∙ ap not (get_or-bits_of n words i false below)
    ∙ sym (ap (λ w. bit_at w (i % 64) == 1) (get_or-map (bit_not w64) words (i / 64) 0 0 (omega arith))
    ∙ ap (λ b. b == 1) (bit_at_not w64 (get_or words (i / 64) 0) (i % 64) (fits (i / 64)) (omega arith))
    ∙ turned_digit (bit_at (get_or words (i / 64) 0) (i % 64)) (bit_at-lt (get_or words (i / 64) 0) (i % 64)))))
