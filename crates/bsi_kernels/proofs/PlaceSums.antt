-- The sum of the digits of a selection, by their binary places.
use Rattle.std.proofs.Common.{◌≡◌, ℕ, ◌+◌, ◌-◌, ◌*◌, ◌%◌, ◌^◌, ◌<◌, ◌≤◌, Bool, true, false, cond, List, get_or, map, inl, inr, ap, ap₂, sym, ◌∙◌, refl, arith, mod-eq_of_lt}
use Rattle.std.specs.Prelude.{◌==◌, ◌&&◌, count_by, sum_by}
use Rattle.std.specs.Int.{bit_at}
use Rattle.std.specs.List.{items_where_true}
use Rattle.std.specs.Simd.Lanes.{zip2}
use Rattle.std.proofs.Math.Nat.{pow-le-pow_right}
use Rattle.std.proofs.lemmas.Bool.{cases_eq}
use Rattle.std.proofs.lemmas.Bool.Decides.{nat_tests}
use Rattle.std.proofs.lemmas.Nat.{mod-pow-add, mul-le, pow-add, pow_pos}
use Rattle.std.proofs.lemmas.Nat.Bits.{bit_at-lt}
use Rattle.bsi_bits.proofs.Pairs.{zip2-map_right}
use Rattle.bsi_kernels.specs.Places.{has_place}
use Rattle.bsi_kernels.proofs.DigitMaps.{sum_parts, same_sums, zero_sum}

by_bit : (b w : ℕ) → b < 2 → b * w ≡ cond (b == 1) w 0
by_bit b w small = elim (cases_eq b 1) [
  | inl one ↦
      let test : (b == 1) ≡ true = grind (arith, nat_tests) in
      let unit : 1 * w ≡ w = omega arith in
      ap (λ d. d * w) one ∙ unit ∙ ap (λ t. cond t w 0) (sym test)
  | inr other ↦
      let test : (b == 1) ≡ false = grind (arith, nat_tests) in
      let none : b ≡ 0 = omega arith in
      let unit : 0 * w ≡ 0 = omega arith in
      ap (λ d. d * w) none ∙ unit ∙ ap (λ t. cond t w 0) (sym test)
]

-- the lowest k + 1 places of a digit
pub places_more : (k v : ℕ) → v % 2 ^ (k + 1) ≡ bit_at v k * 2 ^ k + v % 2 ^ k
places_more k v =
    let next : k + 1 ≡ 1 + k = omega arith in
    let top : v % 2 ^ (1 + k) ≡ bit_at v k * 2 ^ k + v % 2 ^ k = mod-pow-add v 1 k in
    ap (λ i. v % 2 ^ i) next ∙ top

weight_more : (k v : ℕ) → v % 2 ^ (k + 1) ≡ cond (has_place k v) (2 ^ k) 0 + v % 2 ^ k
weight_more k v = places_more k v ∙ ap (λ d. d + v % 2 ^ k) (by_bit (bit_at v k) (2 ^ k) (bit_at-lt v k))

swapped : (a b : ℕ) → a + b ≡ b + a
swapped a b = omega arith

module _ (selection : List Bool) (ds : List ℕ) where
  pub place_sum_none : 0 ≡ sum_by (λ v. v % 2 ^ 0) (items_where_true selection ds)
  place_sum_none = sym (zero_sum (λ v. v % 2 ^ 0) (λ v. omega arith) selection ds)

  -- one place more
  pub place_sum_more : (k s n : ℕ) (bits : List Bool) → bits ≡ map (has_place k) ds → s ≡ sum_by (λ v. v % 2 ^ k) (items_where_true selection ds)
      → n ≡ count_by (λ b. b) (zip2 ◌&&◌ selection bits) → s + n * 2 ^ k ≡ sum_by (λ v. v % 2 ^ (k + 1)) (items_where_true selection ds)
  place_sum_more k s n bits bits_are sum_is count_is =
      let counted =
      count_is ∙ ap (λ bs. count_by (λ b. b) (zip2 ◌&&◌ selection bs)) bits_are
      ∙ ap (count_by (λ b. b)) (zip2-map_right ◌&&◌ (has_place k) selection ds) in
      ap₂ (λ x y. x + y * 2 ^ k) sum_is counted
      ∙ swapped (sum_by (λ v. v % 2 ^ k) (items_where_true selection ds)) (count_by (λ b. b) (zip2 (λ b v. b && has_place k v) selection ds) * 2 ^ k)
      ∙ sym (sum_parts (λ b v. b && has_place k v) (2 ^ k) (λ v. v % 2 ^ k) (λ v. v % 2 ^ (k + 1)) (λ v. refl) (weight_more k) selection ds)

  -- the places suffice
  pub place_sum_all : (n : ℕ) → ((k : ℕ) → get_or ds k 0 ≤ 2 ^ n - 1) → sum_by (λ v. v % 2 ^ n) (items_where_true selection ds) ≡ sum_by (λ v. v) (items_where_true selection ds)
  place_sum_all n most =
      same_sums (λ v. v % 2 ^ n) (λ v. v) (2 ^ n - 1) (λ v within. mod-eq_of_lt (omega (arith, within, pow_pos n))) selection ds most

-- a count of rows times a weight, and weights
pub small_weight : (n k : ℕ) → n ≤ 2 ^ 32 → n * 2 ^ k ≤ 2 ^ 32 * 2 ^ k
small_weight n k few = mul-le n (2 ^ k) (2 ^ 32) (2 ^ k) few (omega arith)

pub small_power : (k top : ℕ) → k ≤ top → 2 ^ k ≤ 2 ^ top
small_power k top few = pow-le-pow_right (omega arith) few

pub twice_power : (k : ℕ) → 2 ^ (k + 1) ≡ 2 ^ k + 2 ^ k
twice_power k = let next : k + 1 ≡ 1 + k = omega arith in let twice = pow-add 2 1 k in ap (λ i. 2 ^ i) next ∙ twice ∙ omega arith
