-- The words of bits.
use Rattle.std.proofs.Common.{◌≡◌, ℕ, zero, suc, ◌+◌, ◌*◌, ◌/◌, ◌%◌, ◌^◌, ◌<◌, ◌≤◌, Bool, true, false, List, length, get_or, inl, inr, refl, sym, ap, ◌∙◌, arith}
use Rattle.std.specs.Prelude.{◌==◌, if◌then◌else◌}
use Rattle.std.specs.Int.{bit_at}
use Rattle.std.proofs.lemmas.Bool.{cases_eq, cases_lt}
use Rattle.std.proofs.lemmas.Bool.Decides.{nat_tests}
use Rattle.std.proofs.lemmas.List.{get_or_past}
use Rattle.std.proofs.lemmas.List.FromFn.{fill_by_all, get_or-map-range_with_len, length-map-range_with_len}
use Rattle.std.proofs.Math.Nat.{div-div-eq-div-mul, div-le_self, lt-div-mul-add}
use Rattle.std.proofs.lemmas.Nat.{pow-add, pow_pos}
use Rattle.std.proofs.lemmas.Nat.Bits.{bit_at-suc, bit_at-zero, bit_at_above}
use Rattle.bsi_bits.specs.BitList.{word_count}
use Rattle.bsi_bits.specs.Packed.{bit_of}
use Rattle.bsi_segments.specs.Bitmaps.{packed, value, word_of_bits}

two_pow : (i : ℕ) → 2 ^ (suc i) ≡ 2 * 2 ^ i
two_pow i = let e : suc i ≡ 1 + i = omega arith in ap (λ k. 2 ^ k) e ∙ pow-add 2 1 i

low_bit : (v : ℕ) → (if bit_at v 0 == 1 then 1 else 0) ≡ v % 2
low_bit v = elim (cases_eq (v % 2) 1) [
  | inl one ↦ let on : (bit_at v 0 == 1) ≡ true = grind (arith, nat_tests) in ap {B = ℕ} (λ b. if b then 1 else 0) on ∙ sym one
  | inr other ↦ let off : (bit_at v 0 == 1) ≡ false = grind (arith, nat_tests) in let none : v % 2 ≡ 0 = omega arith in ap {B = ℕ} (λ b. if b then 1 else 0) off ∙ sym none
]

-- a number is that of its binary places
pub value_is : (n : ℕ) (f : ℕ → Bool) (v : ℕ) → v < 2 ^ n → ((i : ℕ) → i < n → (bit_at v i == 1) ≡ f i) → v ≡ value n f
unfolding value
value_is zero f v small same = omega arith
value_is (suc n) f v small same =
    let low : (if f 0 then 1 else 0) ≡ v % 2 = ap {B = ℕ} (λ b. if b then 1 else 0) (sym (same 0 (omega arith))) ∙ low_bit v in
    let half : v / 2 < 2 ^ n = omega (arith, two_pow n) in
    let rest : v / 2 ≡ value n (λ i. f (suc i)) = value_is n (λ i. f (suc i)) (v / 2) half (λ i within. ap (λ b. b == 1) (sym (bit_at-suc v i)) ∙ same (suc i) (omega arith)) in
    omega (arith, low, rest)

-- and has them
pub value_bit : (n : ℕ) (f : ℕ → Bool) (i : ℕ) → i < n → (bit_at (value n f) i == 1) ≡ f i
unfolding value
value_bit zero f i within = absurd (omega arith)
value_bit (suc n) f zero within = lowest (f 0) (value n (λ i. f (suc i)))
  where
    lowest : (b : Bool) (m : ℕ) → (bit_at ((if b then 1 else 0) + 2 * m) 0 == 1) ≡ b
    lowest true m = grind (arith, nat_tests)
    lowest false m = grind (arith, nat_tests)
value_bit (suc n) f (suc i) within =
    ap (λ x. x == 1) (bit_at-suc ((if f 0 then 1 else 0) + 2 * value n (λ j. f (suc j))) i ∙ ap (λ x. bit_at x i) (half (f 0) (value n (λ j. f (suc j)))))
    ∙ value_bit n (λ j. f (suc j)) i (omega arith)
  where
    small : (b : Bool) → (if b then 1 else 0) ≤ 1
    small true = omega arith
    small false = omega arith

    half : (b : Bool) (m : ℕ) → ((if b then 1 else 0) + 2 * m) / 2 ≡ m
    half b m = omega (arith, small b)

-- a bit of the words
place_in : (words : List ℕ) (k i : ℕ) → i < 64 → bit_of words (64 * k + i) ≡ (bit_at (get_or words k 0) i == 1)
place_in words k i within =
    let word : (64 * k + i) / 64 ≡ k = omega arith in
    let place : (64 * k + i) % 64 ≡ i = omega arith in
    (λ j. bit_at (get_or words (word j) 0) (place j) == 1)

-- words that have the bits are those of the bits
pub packed_are : (words : List ℕ) (bits : List Bool) → ((k : ℕ) → get_or words k 0 < 2 ^ 64) → length words ≡ word_count (length bits) → ((i : ℕ) → bit_of words i ≡ get_or bits i false)
    → words ≡ packed bits
packed_are words bits fits few places =
    fill_by_all (word_of_bits bits) words (word_count (length bits)) 0 few (λ k below.
    value_is 64 (λ i. get_or bits (64 * k + i) false) (get_or words k 0) (fits k) (λ i within. sym (place_in words k i within) ∙ places (64 * k + i)))

-- the words of bits have them, and nothing past them
pub packed_bit : (bits : List Bool) (i : ℕ) → bit_of (packed bits) i ≡ get_or bits i false
packed_bit bits i = elim (cases_lt (i / 64) (word_count (length bits))) [
  | inl within ↦
      let n = word_count (length bits) in
      let word : get_or (packed bits) (i / 64) 0 ≡ word_of_bits bits (i / 64) = get_or-map-range_with_len (word_of_bits bits) 0 n (i / 64) (i / 64) 0 within (omega arith) in
      let whole : 64 * (i / 64) + i % 64 ≡ i = omega arith in
      ap (λ w. bit_at w (i % 64) == 1) word ∙ value_bit 64 (λ j. get_or bits (64 * (i / 64) + j) false) (i % 64) (omega arith) ∙ ap (λ j. get_or bits j false) whole
  | inr past ↦
      let none : get_or (packed bits) (i / 64) 0 ≡ 0 = get_or_past (packed bits) (i / 64) 0 (omega (arith, past, length-map-range_with_len (word_of_bits bits) 0 (word_count (length bits)))) in
      ap (λ w. bit_at w (i % 64) == 1) none ∙ zero_bit (i % 64) ∙ sym (get_or_past bits i false (omega (arith, past)))
]
  where
    zero_bit : (j : ℕ) → (bit_at 0 j == 1) ≡ false
    zero_bit j = ap (λ x. x == 1) (bit_at-zero j)

-- ---- places past the last bit

below_power : (w p : ℕ) → 0 < p → w / p ≡ 0 → w < p
below_power w p some none =
    let product : w / p * p ≡ 0 = ap (λ q. q * p) none ∙ omega arith in
    omega (arith, product, lt-div-mul-add {a = w} {b = p} some)

-- where the last word has nothing past them, all places past them are clear
pub clear_past : (words : List ℕ) (n : ℕ) → length words ≡ word_count n → get_or words (n / 64) 0 / 2 ^ (n % 64) ≡ 0 → (i : ℕ) → n ≤ i → bit_of words i ≡ false
clear_past words n few none i from = elim (cases_eq (i / 64) (n / 64)) [
  | inl same ↦
      let small = below_power (get_or words (n / 64) 0) (2 ^ (n % 64)) (pow_pos (n % 64)) none in
      let above : bit_at (get_or words (n / 64) 0) (i % 64) ≡ 0 = bit_at_above (get_or words (n / 64) 0) (n % 64) (i % 64) small (omega arith) in
      ap (λ k. bit_at (get_or words k 0) (i % 64) == 1) same ∙ ap (λ b. b == 1) above
  | inr apart ↦ zero_past words i (omega (arith, few, apart, from))
]
  where
    zero_past : (words : List ℕ) (i : ℕ) → length words ≤ i / 64 → bit_of words i ≡ false
    zero_past words i past = ap (λ w. bit_at w (i % 64) == 1) (get_or_past words (i / 64) 0 past) ∙ ap (λ x. x == 1) (bit_at-zero (i % 64))

value_none : (n : ℕ) → value n (λ i. false) ≡ 0
unfolding value
value_none zero = refl
value_none (suc n) = omega (arith, value_none n)

-- where all places past them are clear, the last word has nothing past them
pub none_past : (words : List ℕ) (n : ℕ) → ((k : ℕ) → get_or words k 0 < 2 ^ 64) → ((i : ℕ) → n ≤ i → bit_of words i ≡ false) → get_or words (n / 64) 0 / 2 ^ (n % 64) ≡ 0
none_past words n fits clear =
    let w = get_or words (n / 64) 0 in
    let k = n % 64 in
    let most : w / 2 ^ k ≤ w = div-le_self w (2 ^ k) in
    value_is 64 (λ i. false) (w / 2 ^ k) (omega (arith, most, fits (n / 64))) (λ i within. moved w k i ∙ at (k + i) (omega arith)) ∙ value_none 64
  where
    moved : (w k i : ℕ) → (bit_at (w / 2 ^ k) i == 1) ≡ (bit_at w (k + i) == 1)
    moved w k i = ap (λ x. x % 2 == 1) (div-div-eq-div-mul w (2 ^ k) (2 ^ i) ∙ ap (λ p. w / p) (sym (pow-add 2 k i)))

    at : (j : ℕ) → n % 64 ≤ j → (bit_at (get_or words (n / 64) 0) j == 1) ≡ false
    at j from = elim (cases_lt j 64) [
      | inl within ↦ sym (place_in words (n / 64) j within) ∙ clear (64 * (n / 64) + j) (omega arith)
      | inr past ↦ ap (λ b. b == 1) (bit_at_above (get_or words (n / 64) 0) 64 j (fits (n / 64)) past)
    ]
