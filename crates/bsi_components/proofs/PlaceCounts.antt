-- How many binary places the digits below a base take.
use Rattle.std.proofs.Common.{◌≡◌, ℕ, zero, suc, ◌+◌, ◌-◌, ◌*◌, ◌^◌, ◌<◌, ◌≤◌, Bool, true, false, inl, inr, arith, refl, subst}
use Rattle.std.specs.Prelude.{nat_lt, if◌then◌else◌}
use Rattle.bsi_components.specs.Bitmaps.{stored_places}
use Rattle.std.specs.Int.Count.{count_leading_zeros}
use Rattle.std.proofs.Math.Nat.{pow-le-pow_right}
use Rattle.std.proofs.lemmas.Bool.{cases_lt}
use Rattle.std.proofs.lemmas.Nat.{leading_length}
use Rattle.bsi_digits.specs.Digits.{IsBase}
use Rattle.bsi_components.specs.PlaceNumbers.{place_count}

-- a number below 2 ^ 10 takes ten places at most
few_places : (a m : ℕ) → a < 2 ^ 10 → 2 ^ m ≤ 2 * a + 1 → m ≤ 10
few_places a m small long = elim (cases_lt m 11) [
  | inl few ↦ omega arith
  | inr past ↦ let more : 2 ^ 11 ≤ 2 ^ m = pow-le-pow_right (omega arith) past in absurd (omega (arith, more, small, long))
]

some_place : (top m : ℕ) → 0 < top → top < 2 ^ m → 1 ≤ m
some_place top zero some below = absurd (omega arith)
some_place top (suc m) some below = omega arith

pub count_few : (base : ℕ) → IsBase base → (1 ≤ place_count base) × (place_count base ≤ 10)
count_few base is_base =
    let top = base - 1 in
    let length_is = leading_length 32 top (omega (arith, is_base.1)) in
    let few = few_places top length_is.0 (omega (arith, is_base.1)) length_is.3 in
    let some = some_place top length_is.0 (omega (arith, is_base.0)) (omega (arith, length_is.2)) in
    (omega (arith, length_is.1, some), omega (arith, length_is.1, few))

pub count_enough : (base : ℕ) → IsBase base → base ≤ 2 ^ place_count base
count_enough base is_base =
    let top = base - 1 in
    let length_is = leading_length 32 top (omega (arith, is_base.1)) in
    let same : length_is.0 ≡ 32 - count_leading_zeros 32 top = omega (arith, length_is.1) in
    subst (λ (k : ℕ). base ≤ 2 ^ k) same (omega (arith, length_is.2, is_base.0))

-- all places are kept if any are
pub stored_all : (base : ℕ) → 0 < stored_places base → stored_places base ≡ place_count base
stored_all base some = chosen (nat_lt base 4) (place_count base) some
  where
    chosen : (b : Bool) (n : ℕ) → 0 < (if b then 0 else n) → (if b then 0 else n) ≡ n
    chosen true n some = absurd (omega arith)
    chosen false n some = refl
