-- How one binary place more orders a number and a constant.
use Rattle.std.proofs.Common.{◌≡◌, ℕ, ◌+◌, ◌*◌, ◌/◌, ◌%◌, ◌^◌, ◌<◌, Bool, true, false, ◌&&◌, ◌||◌, List, cond, get_or, length, map, not, inl, inr, sym, ◌∙◌, ap, arith}
use Rattle.std.specs.Prelude.{◌==◌, if◌then◌else◌, bit_and}
use Rattle.std.specs.Int.{bit_at}
use Rattle.std.proofs.lemmas.Bool.{cases_eq, cases_lt}
use Rattle.std.proofs.lemmas.Bool.Decides.{nat_tests}
use Rattle.std.proofs.lemmas.Nat.{mod-pow-add, mod_below, pow_pos}
use Rattle.std.proofs.lemmas.Nat.Bits.{bit_at-lt, bit_at-zero, shr_and_one}
use Rattle.std.proofs.lemmas.List.{get_or-map, get_or_past, length-map}
use Rattle.std.proofs.Math.Nat.{mod-eq_of_lt}
use Rattle.bsi_bits.specs.BitList.{BitList}
use Rattle.bsi_kernels.specs.Places.{at_most_step, has_place, IsEncoded}
use Rattle.bsi_kernels.proofs.BitmapReads.{read_bitmap}

-- a higher place decides over the lower ones
at_place : (low : Bool) (a b p : ℕ) (x y : Bool) → a < p → b < p
    → at_most_step low (a + cond x 1 0 * p) (b + cond y 1 0 * p) ≡ (if y then (at_most_step low a b || not x) else (at_most_step low a b && not x))
at_place low a b p true true small below = grind (arith, nat_tests)
at_place low a b p true false small below = grind (arith, nat_tests)
at_place low a b p false true small below = grind (arith, nat_tests)
at_place low a b p false false small below = grind (arith, nat_tests)

-- the lowest i + 1 places of a number
places_more : (n i : ℕ) → n % 2 ^ (i + 1) ≡ n % 2 ^ i + cond (has_place i n) 1 0 * 2 ^ i
places_more n i =
    let e : i + 1 ≡ 1 + i = omega arith in
    let top : n % 2 ^ (1 + i) ≡ (bit_at n i) * 2 ^ i + n % 2 ^ i = mod-pow-add n 1 i in
    let d : bit_at n i ≡ cond (has_place i n) 1 0 = value_is (bit_at n i) (bit_at-lt n i) in
    ap (λ k. n % 2 ^ k) e ∙ top ∙ ap (λ b. b * 2 ^ i + n % 2 ^ i) d ∙ (let x : ℕ = cond (has_place i n) 1 0 * 2 ^ i in omega arith)
  where
    value_is : (b : ℕ) → b < 2 → b ≡ cond (b == 1) 1 0
    value_is b small = elim (cases_eq b 1) [
      | inl one ↦ let t : (b == 1) ≡ true = grind (arith, nat_tests) in rw t one
      | inr other ↦ let t : (b == 1) ≡ false = grind (arith, nat_tests) in rw t (omega arith)
    ]

module _ (low : Bool) (n c i : ℕ) where
  -- by one place more
  ordered_more : at_most_step low (n % 2 ^ (i + 1)) (c % 2 ^ (i + 1))
      ≡ (if has_place i c then (at_most_step low (n % 2 ^ i) (c % 2 ^ i) || not (has_place i n)) else (at_most_step low (n % 2 ^ i) (c % 2 ^ i) && not (has_place i n)))
  ordered_more =
      (λ j. at_most_step low (places_more n i j) (places_more c i j))
      ∙ at_place low (n % 2 ^ i) (c % 2 ^ i) (2 ^ i) (has_place i n) (has_place i c) (mod_below n (2 ^ i) (pow_pos i)) (mod_below c (2 ^ i) (pow_pos i))

  -- as the constant's place is read
  pub ordered_with : (before after place : Bool) → before ≡ at_most_step low (n % 2 ^ i) (c % 2 ^ i) → place ≡ has_place i n
      → after ≡ (if bit_and (c / 2 ^ i) 1 == 1 then (before || not place) else (before && not place)) → after ≡ at_most_step low (n % 2 ^ (i + 1)) (c % 2 ^ (i + 1))
  ordered_with before after place was is now_ =
      let read : (bit_and (c / 2 ^ i) 1 == 1) ≡ has_place i c = ap (λ b. b == 1) (shr_and_one c i) in
      now_ ∙ (λ j. if read j then (was j || not (is j)) else (was j && not (is j))) ∙ sym ordered_more

-- by no place
pub ordered_none : (low : Bool) (n c : ℕ) → low ≡ at_most_step low (n % 2 ^ 0) (c % 2 ^ 0)
ordered_none low n c =
    let a : n % 1 ≡ 0 = omega arith in
    let b : c % 1 ≡ 0 = omega arith in
    grind (arith, nat_tests, a, b)

-- the bit of a row at a place, which is clear past the last row
pub place_read : (places : List BitList) (place : BitList) (i : ℕ) → i < length places → place ≡ get_or places i place → (numbers : List ℕ) → IsEncoded has_place places numbers
    → (r : ℕ) → get_or place.bits r false ≡ has_place i (get_or numbers r 0)
place_read places place i within read numbers encoded r =
    let bits : place.bits ≡ map (has_place i) numbers = ap (λ (b : BitList). b.bits) (read_bitmap places i place within read) ∙ encoded.each i within in
    ap (λ bits. get_or bits r false) bits ∙ elim (cases_lt r (length numbers)) [
      | inl below ↦ get_or-map (has_place i) numbers r 0 false below
      | inr past ↦
          get_or_past (map (has_place i) numbers) r false (omega (arith, past, length-map numbers (has_place i)))
          ∙ sym (ap (has_place i) (get_or_past numbers r 0 past) ∙ ap (λ b. b == 1) (bit_at-zero i))
    ]

-- by all places
pub ordered_all : (low : Bool) (n c i : ℕ) → n < 2 ^ i → c < 2 ^ i → at_most_step low (n % 2 ^ i) (c % 2 ^ i) ≡ at_most_step low n c
ordered_all low n c i small below = λ j. at_most_step low (mod-eq_of_lt small j) (mod-eq_of_lt below j)
