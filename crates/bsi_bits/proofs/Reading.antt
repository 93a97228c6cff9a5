-- The list of bits that words hold, place by place.
use Rattle.std.proofs.Common.{◌≡◌, ℕ, ◌+◌, ◌-◌, ◌*◌, ◌/◌, ◌%◌, ◌^◌, ◌<◌, ◌≤◌, Bool, true, false, Some, List, [], ◌∷◌, ◌++◌, length, get_or, inl, inr, ap, sym, ◌∙◌, arith}
use Rattle.std.proofs.lemmas.List.{get_or_past, length-replicate, get_or-replicate}
use Rattle.std.proofs.lemmas.List.FromFn.{length-map-range_with_len, get_or-map-range_with_len, map-range_with_len_more, fill_by_all}
use Rattle.std.proofs.lemmas.Bool.{cases_lt}
use Rattle.std.proofs.lemmas.Grind.{get_or_default_zero}
use Rattle.std.proofs.lemmas.Option.{slice_get-get_or}
use Rattle.std.proofs.lemmas.Nat.Bits.{shr_and_one, bit_at_ones, bit_at-zero}
use Rattle.std.specs.Int.{bit_at}
use Rattle.std.specs.Prelude.{◌==◌, bit_and, slice_get, replicate}
use Rattle.bsi_bits.specs.Packed.{bit_of, bits_of, IsPacked}

-- n words' bits are n
pub length-bits_of : (n : ℕ) (words : List ℕ) → length (bits_of n words) ≡ n
unfolding bits_of
length-bits_of n words = length-map-range_with_len (bit_of words) 0 n

-- item i is the bit at place i
pub get_or-bits_of : (n : ℕ) (words : List ℕ) (i : ℕ) (d : Bool) → i < n → get_or (bits_of n words) i d ≡ bit_of words i
unfolding bits_of
get_or-bits_of n words i d within = get_or-map-range_with_len (bit_of words) 0 n i i d within (omega arith)

-- a list with these items is the list of the bits
pub bits_are : (n : ℕ) (words : List ℕ) (bits : List Bool) → length bits ≡ n → ((i : ℕ) → i < n → get_or bits i false ≡ bit_of words i) → bits ≡ bits_of n words
unfolding bits_of
bits_are n words bits long each = fill_by_all (bit_of words) bits n false long each

-- words with the same bits at the first n places
pub same_bits : (n : ℕ) (words others : List ℕ) → ((i : ℕ) → i < n → bit_of words i ≡ bit_of others i) → bits_of n words ≡ bits_of n others
same_bits n words others each = bits_are n others (bits_of n words) (length-bits_of n words) (λ i within. get_or-bits_of n words i false within ∙ each i within)

-- one bit more
pub bits_of_more : (n : ℕ) (words : List ℕ) → bits_of (n + 1) words ≡ bits_of n words ++ bit_of words n ∷ []
unfolding bits_of
bits_of_more n words = map-range_with_len_more (bit_of words) 0 n n (omega arith)

-- of packed words, a place past the bits is off as the list has it
pub packed_place : (n : ℕ) (words : List ℕ) → IsPacked n words → (i : ℕ) → bit_of words i ≡ get_or (bits_of n words) i false
packed_place n words packed i = elim (cases_lt i n) [
  | inl within ↦ sym (get_or-bits_of n words i false within)
  | inr past ↦ packed.clear i past ∙ sym (get_or_past (bits_of n words) i false (omega (arith, length-bits_of n words)))
]

-- a bit as it is read: the word moved down to its place, and the lowest digit of that
pub bit_read : (n : ℕ) (words : List ℕ) → IsPacked n words → (i w : ℕ) → i < n → w ≡ get_or words (i / 64) w
    → slice_get (bits_of n words) i ≡ Some (bit_and (w / 2 ^ (i % 64)) 1 == 1)
bit_read n words packed i w within read =
    let in_words : i / 64 < length words = omega (arith, packed.few) in
    slice_get-get_or (bits_of n words) i false (omega (arith, length-bits_of n words))
    ∙ ap Some (get_or-bits_of n words i false within
    ∙ ap (λ x. bit_at x (i % 64) == 1) (sym (read ∙ get_or_default_zero words (i / 64) w in_words))
    ∙ ap (λ b. b == 1) (sym (shr_and_one w (i % 64))))

-- the bits of copies of one word whose digits are all alike
pub bits_of-replicate : (n k word : ℕ) (bit : Bool) → n ≤ 64 * k → ((j : ℕ) → j < 64 → (bit_at word j == 1) ≡ bit) → bits_of n (replicate k word) ≡ replicate n bit
bits_of-replicate n k word bit enough alike =
    sym (bits_are n (replicate k word) (replicate n bit) (length-replicate n bit) (λ i below.
    get_or-replicate n i bit false below
    ∙ sym (ap (λ w. bit_at w (i % 64) == 1) (get_or-replicate k (i / 64) word 0 (omega arith)) ∙ alike (i % 64) (omega arith))))

pub all_set : (j : ℕ) → j < 64 → (bit_at (2 ^ 64 - 1) j == 1) ≡ true
all_set j below = ap (λ b. b == 1) (bit_at_ones 64 j below)

pub none_set : (j : ℕ) → j < 64 → (bit_at 0 j == 1) ≡ false
none_set j below = ap (λ b. b == 1) (bit_at-zero j)

-- no bit, no list
pub bits_of-empty : (n : ℕ) (words : List ℕ) → n ≡ 0 → bits_of n words ≡ []
bits_of-empty n words none = sym (bits_are n words [] (sym none) (λ i below. absurd (omega arith)))

pub empty_bits_of : (n : ℕ) (words : List ℕ) → bits_of n words ≡ [] → n ≡ 0
empty_bits_of n words none = sym (length-bits_of n words) ∙ ap length none
