-- Bitmaps of an encoding with those of the binary places behind them.
use Rattle.std.proofs.Common.{◌≡◌, ℕ, ◌+◌, ◌-◌, ◌^◌, ◌<◌, ◌≤◌, Bool, true, false, List, length, drop, map, inl, inr, ap, sym, ◌∙◌, arith, subst}
use Rattle.std.specs.Prelude.{nat_lt, if◌then◌else◌}
use Rattle.std.proofs.lemmas.Bool.{cases_lt}
use Rattle.std.proofs.lemmas.Bool.Decides.{nat_tests}
use Rattle.std.proofs.lemmas.List.{get_or-drop, length-drop}
use Rattle.bsi_bits.specs.BitList.{BitList}
use Rattle.bsi_bits.specs.BitLists.{bits_at, no_bits}
use Rattle.bsi_kernels.specs.Places.{has_place, max_digit_places, then_places, IsCount, IsEncoded}
use Rattle.bsi_kernels.proofs.DigitMaps.{map_same}

lt_is : (j n : ℕ) → j < n → nat_lt j n ≡ true
lt_is j n below = grind (arith, nat_tests)

ge_is : (j n : ℕ) → n ≤ j → nat_lt j n ≡ false
ge_is j n from = grind (arith, nat_tests)

module _ (own : ℕ) (holds : ℕ → ℕ → Bool) where
  -- a bitmap before the places, and one of them
  pub own_test : (j v : ℕ) → j < own → then_places own holds j v ≡ holds j v
  own_test j v below = ap (λ b. if b then holds j v else has_place (j - own) v) (lt_is j own below)

  pub place_test : (j v : ℕ) → own ≤ j → then_places own holds j v ≡ has_place (j - own) v
  place_test j v from = ap (λ b. if b then holds j v else has_place (j - own) v) (ge_is j own from)

  module _ (rs : List BitList) (ds : List ℕ) (encoded : IsEncoded (then_places own holds) rs ds) where
    pub own_bits : (j : ℕ) → j < own → j < length rs → bits_at rs j ≡ map (holds j) ds
    own_bits j below within = encoded.each j within ∙ map_same (then_places own holds j) (holds j) (λ v. own_test j v below) ds

-- the tests of the digits from the first one on
pub moved : (marks : ℕ → ℕ → Bool) (base first j v : ℕ) → first ≤ base → then_places base marks (first + j) v ≡ then_places (base - first) (λ i v. marks (first + i) v) j v
moved marks base first j v low = elim (cases_lt j (base - first)) [
  | inl inside ↦ own_test base marks (first + j) v (omega arith) ∙ sym (own_test (base - first) (λ i v. marks (first + i) v) j v inside)
  | inr above ↦
      let same : first + j - base ≡ j - (base - first) = omega arith in
      place_test base marks (first + j) v (omega arith) ∙ ap (λ i. has_place i v) same ∙ sym (place_test (base - first) (λ i v. marks (first + i) v) j v above)
]

-- how many bitmaps there are
pub count_same : (base own n m : ℕ) → m ≡ n → IsCount base own n → IsCount base own m
count_same base own n m same count = subst (λ (k : ℕ). IsCount base own k) (sym same) count

pub count_made : (base own places n : ℕ) → n ≡ own + places → places ≤ max_digit_places → (1 ≤ places → base ≤ 2 ^ places) → (4 ≤ base → 1 ≤ places) → IsCount base own n
count_made base own places n is few enough from = record {
  owned = omega arith;
  few = omega arith;
  enough = λ some.
      let back : places ≡ n - own = omega arith in
      subst (λ (k : ℕ). base ≤ 2 ^ k) back (enough (omega arith));
  some = λ four.
      let one : 1 ≤ places = from four in
      omega arith;
}

-- with the first digits that have no bitmap
pub count_moved : (base first own n m : ℕ) → own + first ≡ base → m ≡ first + n → IsCount base own n → IsCount base base m
count_moved base first own n m is all count = record {
  owned = omega (arith, count.owned);
  few = omega (arith, count.few);
  enough = λ some.
      let same : n - own ≡ m - base = omega arith in
      subst (λ (k : ℕ). base ≤ 2 ^ k) same (count.enough (omega arith));
  some = λ four.
      let more : own < n = count.some four in
      omega arith;
}
