-- The numbers of rows whose binary places stand in slices.
use Rattle.std.proofs.Common.{◌≡◌, ℕ, zero, suc, ◌+◌, ◌*◌, ◌/◌, ◌%◌, ◌^◌, ◌<◌, ◌≤◌, Bool, true, false, ◌&&◌, ◌||◌, not, nat_lt, List, [], ◌∷◌, length, get_or, take, inl, inr, sym, ◌∙◌, ap, refl, arith, length-take}
use Rattle.std.specs.Prelude.{◌==◌, if◌then◌else◌}
use Rattle.std.specs.Int.{bit_at}
use Rattle.std.proofs.lemmas.Bool.{cases_eq}
use Rattle.std.proofs.lemmas.Bool.Decides.{nat_tests}
use Rattle.std.proofs.lemmas.Nat.{mod-pow-add, mod_below, pow_pos, pow-add}
use Rattle.std.proofs.lemmas.Nat.Bits.{bit_at-suc}
use Rattle.std.proofs.lemmas.List.{take_all}
use Rattle.std.proofs.Math.Nat.{mod-eq_of_lt}
use Rattle.bsi_bits.specs.BitList.{BitList}
use Rattle.bsi_bits.specs.BitLists.{bits_at}
use Rattle.bsi_slices.specs.Slices.{bit_value, number}

-- twice a power
two_pow : (i : ℕ) → 2 ^ (suc i) ≡ 2 * 2 ^ i
two_pow i = let e : suc i ≡ 1 + i = omega arith in ap (λ k. 2 ^ k) e ∙ pow-add 2 1 i

-- a bit is at most 1
place_small : (bit : Bool) → bit_value bit ≤ 1
place_small true = omega arith
place_small false = omega arith

-- the number in the first i + 1 slices
pub number_more : (slices : List BitList) (r i : ℕ) → i < length slices
    → number (take (i + 1) slices) r ≡ number (take i slices) r + bit_value (get_or (bits_at slices i) r false) * 2 ^ i
unfolding number
number_more [] r i within = absurd (omega arith)
number_more (s ∷ slices) r zero within = grind arith
number_more (s ∷ slices) r (suc i) within =
    let next : suc i + 1 ≡ suc (i + 1) = omega arith in
    ap (λ k. number (take k (s ∷ slices)) r) next
    ∙ ap (λ m. bit_value (get_or s.bits r false) + 2 * m) (number_more slices r i (omega arith))
    ∙ (let d : ℕ = bit_value (get_or (bits_at slices i) r false) in let p = two_pow i in grind arith)

-- it is below two to the power of their number
pub number_below : (slices : List BitList) (r : ℕ) → number slices r < 2 ^ length slices
unfolding number
number_below [] r = omega arith
number_below (s ∷ slices) r = omega (arith, two_pow (length slices), number_below slices r, place_small (get_or s.bits r false))

-- no slice, no number
pub number_none : (r : ℕ) → number [] r ≡ 0
unfolding number
number_none r = refl

-- binary place k of a number is the bit in slice k
pub number_place : (slices : List BitList) (r k : ℕ) → k < length slices → (bit_at (number slices r) k == 1) ≡ get_or (bits_at slices k) r false
unfolding number
number_place [] r k within = absurd (omega arith)
number_place (s ∷ slices) r zero within = lowest (get_or s.bits r false) (number slices r)
  where
    lowest : (b : Bool) (m : ℕ) → (bit_at (bit_value b + 2 * m) 0 == 1) ≡ b
    lowest true m = grind (arith, nat_tests)
    lowest false m = grind (arith, nat_tests)
number_place (s ∷ slices) r (suc k) within =
    ap (λ x. x == 1) (bit_at-suc (bit_value (get_or s.bits r false) + 2 * number slices r) k ∙ ap (λ x. bit_at x k) (half (get_or s.bits r false) (number slices r)))
    ∙ number_place slices r k (omega arith)
  where
    half : (b : Bool) (m : ℕ) → (bit_value b + 2 * m) / 2 ≡ m
    half b m = omega (arith, place_small b)

-- the lowest i + 1 places of a number
pub places_more : (n i : ℕ) → n % 2 ^ (i + 1) ≡ n % 2 ^ i + bit_value (bit_at n i == 1) * 2 ^ i
places_more n i =
    let e : i + 1 ≡ 1 + i = omega arith in
    let top : n % 2 ^ (1 + i) ≡ (bit_at n i) * 2 ^ i + n % 2 ^ i = mod-pow-add n 1 i in
    let d : bit_at n i ≡ bit_value (bit_at n i == 1) = value_is (bit_at n i) (omega arith) in
    ap (λ k. n % 2 ^ k) e ∙ top ∙ ap (λ b. b * 2 ^ i + n % 2 ^ i) d ∙ (let x : ℕ = bit_value (bit_at n i == 1) * 2 ^ i in omega arith)
  where
    value_is : (b : ℕ) → b < 2 → b ≡ bit_value (b == 1)
    value_is b small = elim (cases_eq b 1) [
      | inl one ↦ let t : (b == 1) ≡ true = grind (arith, nat_tests) in rw t one
      | inr other ↦ let t : (b == 1) ≡ false = grind (arith, nat_tests) in rw t (omega arith)
    ]

-- a higher place decides over the lower ones
above_place : (t m p : ℕ) (c s : Bool) → t < p → m < p
    → nat_lt (t + bit_value c * p) (m + bit_value s * p) ≡ (if c then nat_lt t m && s else (nat_lt t m || s))
above_place t m p true true small below = grind (arith, nat_tests)
above_place t m p true false small below = grind (arith, nat_tests)
above_place t m p false true small below = grind (arith, nat_tests)
above_place t m p false false small below = grind (arith, nat_tests)

equal_place : (t m p : ℕ) (c s : Bool) → t < p → m < p
    → (t + bit_value c * p == m + bit_value s * p) ≡ ((t == m) && (if c then s else not s))
equal_place t m p true true small below = grind (arith, nat_tests)
equal_place t m p true false small below = grind (arith, nat_tests)
equal_place t m p false true small below = grind (arith, nat_tests)
equal_place t m p false false small below = grind (arith, nat_tests)

-- the number in the first i slices is below two to the power of i
low_below : (slices : List BitList) (r i : ℕ) → i < length slices → number (take i slices) r < 2 ^ i
low_below slices r i within =
    let e : length (take i slices) ≡ i = omega (arith, length-take i slices) in
    let b : number (take i slices) r < 2 ^ length (take i slices) = number_below (take i slices) r in
    rw e at b

module _ (slices : List BitList) (n i r : ℕ) (within : i < length slices) where
  -- by one more place, whether the number is above a constant
  pub above_more : nat_lt (n % 2 ^ (i + 1)) (number (take (i + 1) slices) r)
      ≡ (if bit_at n i == 1 then nat_lt (n % 2 ^ i) (number (take i slices) r) && get_or (bits_at slices i) r false else (nat_lt (n % 2 ^ i) (number (take i slices) r) || get_or (bits_at slices i) r false))
  above_more =
      (λ j. nat_lt (places_more n i j) (number_more slices r i within j))
      ∙ above_place (n % 2 ^ i) (number (take i slices) r) (2 ^ i) (bit_at n i == 1) (get_or (bits_at slices i) r false) (mod_below n (2 ^ i) (pow_pos i)) (low_below slices r i within)

  -- and whether it is the constant
  pub equal_more : (n % 2 ^ (i + 1) == number (take (i + 1) slices) r)
      ≡ ((n % 2 ^ i == number (take i slices) r) && (if bit_at n i == 1 then get_or (bits_at slices i) r false else not (get_or (bits_at slices i) r false)))
  equal_more =
      (λ j. places_more n i j == number_more slices r i within j)
      ∙ equal_place (n % 2 ^ i) (number (take i slices) r) (2 ^ i) (bit_at n i == 1) (get_or (bits_at slices i) r false) (mod_below n (2 ^ i) (pow_pos i)) (low_below slices r i within)

-- by no place no number is above the constant, and each is the constant
pub above_none : (n r : ℕ) → nat_lt (n % 1) (number [] r) ≡ false
unfolding number
above_none n r = grind (arith, nat_tests)

pub equal_none : (n r : ℕ) → (n % 1 == number [] r) ≡ true
unfolding number
equal_none n r = let e : n % 1 ≡ 0 = omega arith in grind (arith, nat_tests)

module _ (slices : List BitList) (n i r : ℕ) (last : length slices ≤ i) (within : n < 2 ^ length slices) where
  low_is : length slices ≡ i → n % 2 ^ i ≡ n
  low_is e = ap (λ k. n % 2 ^ k) (sym e) ∙ mod-eq_of_lt within

  -- by all places, below the size
  pub above_all : length slices ≡ i → nat_lt (n % 2 ^ i) (number (take i slices) r) ≡ nat_lt n (number slices r)
  above_all e = (λ j. nat_lt (low_is e j) (number (take_all i slices last j) r))

  pub equal_all : length slices ≡ i → (n % 2 ^ i == number (take i slices) r) ≡ (n == number slices r)
  equal_all e = (λ j. low_is e j == number (take_all i slices last j) r)
