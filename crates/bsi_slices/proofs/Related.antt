-- Sums and their comparison, one binary place after the other.
use Rattle.std.proofs.Common.{◌≡◌, ℕ, ◌+◌, ◌*◌, ◌-◌, ◌%◌, ◌^◌, ◌<◌, ◌≤◌, Bool, true, false, Some, None, ◌&&◌, ◌||◌, cond, List, length, get_or, take, inl, inr, ap, ap₂, sym, subst, ◌∙◌, refl, arith, length-take}
use Rattle.std.specs.Prelude.{◌==◌, nat_le, if◌then◌else◌}
use Rattle.std.specs.Int.{bit_at}
use Rattle.std.specs.Int.Count.{count_leading_zeros}
use Rattle.std.proofs.Math.Nat.{pow-le-pow_right}
use Rattle.std.proofs.lemmas.Bool.{cases_lt}
use Rattle.std.proofs.lemmas.Bool.Decides.{nat_tests}
use Rattle.std.proofs.lemmas.Nat.{leading_length, mod_below, pow-add, pow_pos}
use Rattle.std.proofs.lemmas.List.{get_or_past, take_all}
use Rattle.std.proofs.Math.Nat.{mod-eq_of_lt}
use Rattle.bsi_bits.specs.BitList.{differ, BitList}
use Rattle.bsi_bits.specs.BitLists.{bits_at, no_bits}
use Rattle.bsi_digits.specs.Comparisons.{compares}
use Rattle.bsi_digits.specs.declared.op.Op.{Op}
use Rattle.bsi_digits.specs.declared.op.Op.TheVariants.{Eq, Ne, Lt, Le, Gt, Ge}
use Rattle.bsi_slices.specs.Related.{compares_numbers, compares_entries}
use Rattle.bsi_slices.specs.Slices.{bit_value, number}
use Rattle.bsi_slices.specs.PairRelations.{relation_holds, relation_bit_step}
use Rattle.bsi_slices.specs.declared.slices.related.ColumnComparison.{ColumnComparison}
use Rattle.bsi_slices.specs.declared.pair_relation.PairRelation.{PairRelation}
use Rattle.bsi_slices.specs.declared.pair_relation.PairRelation.TheVariants.{Below, AtMost, Unequal}
use Rattle.bsi_slices.proofs.SliceNumbers.{number_below, number_more, number_none, places_more}

-- how many binary places a number has
pub places_enough : (a b : ℕ) → a ≤ b → b < 2 ^ 63 → (a < 2 ^ (64 - count_leading_zeros 64 b)) × (64 - count_leading_zeros 64 b ≤ 63)
places_enough a b below small =
    let selection = leading_length 64 b (omega (arith, small)) in
    let is : 64 - count_leading_zeros 64 b ≡ selection.0 = omega (arith, selection.1) in
    (subst (λ m. a < 2 ^ m) (sym is) (omega (arith, below, selection.2)), omega (arith, is, few selection.0 selection.3))
  where
    few : (m : ℕ) → 2 ^ m ≤ 2 * b + 1 → m ≤ 63
    few m most = elim (cases_lt 63 m) [
      | inl past ↦ let wide : 64 ≤ m = omega (arith, past) in let big : 2 ^ 64 ≤ 2 ^ m = pow-le-pow_right (omega arith) wide in absurd (omega (arith, big, most, small))
      | inr fits ↦ fits
    ]

-- a sum of two numbers of at most so many places
pub sum_enough : (s l r more : ℕ) → s ≤ r → l ≤ r → more < 2 ^ l → 2 ^ s + more ≤ 2 ^ (r + 1)
sum_enough s l r more first second small =
    let one : 2 ^ s ≤ 2 ^ r = pow-le-pow_right (omega arith) first in
    let two : 2 ^ l ≤ 2 ^ r = pow-le-pow_right (omega arith) second in
    omega (arith, one, two, small, pow-add 2 r 1)

-- what is left of a sum below a power of two, once its carry is taken off
abbrev pub low : ℕ → ℕ → ℕ
low s m = s - cond (nat_le m s) m 0

-- the carry out of one more place
pub carry_more : (s m : ℕ) (a b : Bool) → 0 < m → s < 2 * m
    → (if b then a || nat_le m s else a && nat_le m s) ≡ nat_le (2 * m) (s + bit_value a * m + bit_value b * m)
carry_more s m true true some small = grind (arith, nat_tests)
carry_more s m true false some small = grind (arith, nat_tests)
carry_more s m false true some small = grind (arith, nat_tests)
carry_more s m false false some small = grind (arith, nat_tests)

low_below : (s m : ℕ) → 0 < m → s < 2 * m → low s m < m
low_below s m some small = by (nat_le m s) refl
  where
    by : (k : Bool) → nat_le m s ≡ k → s - cond k m 0 < m
    by true is = grind (arith, nat_tests)
    by false is = grind (arith, nat_tests)

-- and that place
low_more : (s m : ℕ) (a b : Bool) → 0 < m → s < 2 * m
    → low (s + bit_value a * m + bit_value b * m) (2 * m) ≡ low s m + bit_value (differ (differ a (nat_le m s)) b) * m
low_more s m a b some small = by a b (nat_le m s) refl (nat_le (2 * m) (s + bit_value a * m + bit_value b * m)) refl
  where
    by : (a b k : Bool) → nat_le m s ≡ k → (h : Bool) → nat_le (2 * m) (s + bit_value a * m + bit_value b * m) ≡ h
        → s + bit_value a * m + bit_value b * m - cond h (2 * m) 0 ≡ (s - cond k m 0) + bit_value (differ (differ a k) b) * m
    by true true true is true high = grind (arith, nat_tests)
    by true true true is false high = grind (arith, nat_tests)
    by true true false is true high = grind (arith, nat_tests)
    by true true false is false high = grind (arith, nat_tests)
    by true false true is true high = grind (arith, nat_tests)
    by true false true is false high = grind (arith, nat_tests)
    by true false false is true high = grind (arith, nat_tests)
    by true false false is false high = grind (arith, nat_tests)
    by false true true is true high = grind (arith, nat_tests)
    by false true true is false high = grind (arith, nat_tests)
    by false true false is true high = grind (arith, nat_tests)
    by false true false is false high = grind (arith, nat_tests)
    by false false true is true high = grind (arith, nat_tests)
    by false false true is false high = grind (arith, nat_tests)
    by false false false is true high = grind (arith, nat_tests)
    by false false false is false high = grind (arith, nat_tests)

-- how two numbers stand by one more place of both
pub relation_place : (relation : PairRelation) (x y m : ℕ) (a b : Bool) → x < m → y < m
    → relation_bit_step relation a b (relation_holds relation x y) ≡ relation_holds relation (x + bit_value a * m) (y + bit_value b * m)
relation_place Below x y m true true first second = grind (arith, nat_tests)
relation_place Below x y m true false first second = grind (arith, nat_tests)
relation_place Below x y m false true first second = grind (arith, nat_tests)
relation_place Below x y m false false first second = grind (arith, nat_tests)
relation_place AtMost x y m true true first second = grind (arith, nat_tests)
relation_place AtMost x y m true false first second = grind (arith, nat_tests)
relation_place AtMost x y m false true first second = grind (arith, nat_tests)
relation_place AtMost x y m false false first second = grind (arith, nat_tests)
relation_place Unequal x y m true true first second = grind (arith, nat_tests)
relation_place Unequal x y m true false first second = grind (arith, nat_tests)
relation_place Unequal x y m false true first second = grind (arith, nat_tests)
relation_place Unequal x y m false false first second = grind (arith, nat_tests)

-- the same added to both numbers
pub compares_more : (op : Op) (x y more : ℕ) → compares op (x + more) (y + more) ≡ compares op x y
compares_more Eq x y more = grind (arith, nat_tests)
compares_more Ne x y more = grind (arith, nat_tests)
compares_more Lt x y more = grind (arith, nat_tests)
compares_more Le x y more = grind (arith, nat_tests)
compares_more Gt x y more = grind (arith, nat_tests)
compares_more Ge x y more = grind (arith, nat_tests)

-- a number by its lowest binary places
upto_small : (slices : List BitList) (r i : ℕ) → number (take i slices) r < 2 ^ i
upto_small slices r i =
    let short : 2 ^ length (take i slices) ≤ 2 ^ i = pow-le-pow_right (omega arith) (omega (arith, length-take i slices)) in
    omega (arith, number_below (take i slices) r, short)

-- the numbers of a row in some slices, and what is added to them, by their lowest binary places
module _ (slices : List BitList) (more r : ℕ) where
  abbrev pub sum : ℕ → ℕ
  sum i = number (take i slices) r + more % 2 ^ i

  pub sum_small : (i : ℕ) → sum i < 2 * 2 ^ i
  sum_small i = omega (arith, upto_small slices r i, mod_below more (2 ^ i) (pow_pos i))

  pub upto_more : (i : ℕ) → number (take (i + 1) slices) r ≡ number (take i slices) r + bit_value (get_or (bits_at slices i) r false) * 2 ^ i
  upto_more i = elim (cases_lt i (length slices)) [
    | inl inside ↦ number_more slices r i inside
    | inr past ↦
        ap (λ s. number s r) (take_all (i + 1) slices (omega (arith, past)) ∙ sym (take_all i slices past))
        ∙ sym (ap (λ v. number (take i slices) r + bit_value (get_or v r false) * 2 ^ i) (ap (λ v. v.bits) (get_or_past slices i no_bits past)) ∙ omega arith)
  ]

  pub sum_more : (i : ℕ) → sum (i + 1) ≡ sum i + bit_value (get_or (bits_at slices i) r false) * 2 ^ i + bit_value (bit_at more i == 1) * 2 ^ i
  sum_more i = omega (arith, upto_more i, places_more more i)

  pub sum_all : (n : ℕ) → length slices ≤ n → 2 ^ length slices + more ≤ 2 ^ n → (sum n ≡ number slices r + more) × (number slices r + more < 2 ^ n)
  sum_all n long enough =
      (ap₂ ◌+◌ (ap (λ s. number s r) (take_all n slices long)) (mod-eq_of_lt (omega (arith, enough, pow_pos (length slices)))), omega (arith, enough, number_below slices r))

double : (i : ℕ) → 2 ^ (i + 1) ≡ 2 * 2 ^ i
double i = omega (arith, pow-add 2 i 1)

-- the carry out of place i
pub carry_next : (slices : List BitList) (more r i : ℕ) (digits carry : Bool) → digits ≡ get_or (bits_at slices i) r false → carry ≡ nat_le (2 ^ i) (sum slices more r i)
    → (if bit_at more i == 1 then digits || carry else digits && carry) ≡ nat_le (2 ^ (i + 1)) (sum slices more r (i + 1))
carry_next slices more r i digits carry digits_are carry_is =
    let a = get_or (bits_at slices i) r false in
    let one = bit_at more i == 1 in
    ap₂ (λ p k. if one then p || k else p && k) digits_are carry_is
    ∙ carry_more (sum slices more r i) (2 ^ i) a one (pow_pos i) (sum_small slices more r i)
    ∙ ap₂ nat_le (sym (double i)) (sym (sum_more slices more r i))

-- how two numbers stand, by their place i and those below it
pub relation_next : (relation : PairRelation) (slices others : List BitList) (r i : ℕ) (digits other state : Bool)
    → digits ≡ get_or (bits_at slices i) r false → other ≡ get_or (bits_at others i) r false → state ≡ relation_holds relation (number (take i slices) r) (number (take i others) r)
    → relation_bit_step relation digits other state ≡ relation_holds relation (number (take (i + 1) slices) r) (number (take (i + 1) others) r)
relation_next relation slices others r i digits other state digits_are other_is state_is =
    ap₂ (λ a b. relation_bit_step relation a b state) digits_are other_is
    ∙ ap (relation_bit_step relation (get_or (bits_at slices i) r false) (get_or (bits_at others i) r false)) state_is
    ∙ relation_place relation _ _ (2 ^ i) _ _ (upto_small slices r i) (upto_small others r i)
    ∙ ap₂ (relation_holds relation) (sym (upto_more slices 0 r i)) (sym (upto_more others 0 r i))

-- how a sum stands to a number
pub sums_next : (relation : PairRelation) (slices others : List BitList) (more r i : ℕ) (digits other state : Bool)
    → digits ≡ differ (differ (get_or (bits_at slices i) r false) (nat_le (2 ^ i) (sum slices more r i))) (bit_at more i == 1)
    → other ≡ get_or (bits_at others i) r false → state ≡ relation_holds relation (low (sum slices more r i) (2 ^ i)) (number (take i others) r)
    → relation_bit_step relation digits other state ≡ relation_holds relation (low (sum slices more r (i + 1)) (2 ^ (i + 1))) (number (take (i + 1) others) r)
sums_next relation slices others more r i digits other state digits_are other_is state_is =
    ap₂ (λ a b. relation_bit_step relation a b state) digits_are other_is
    ∙ ap (relation_bit_step relation (differ (differ (get_or (bits_at slices i) r false) (nat_le (2 ^ i) (sum slices more r i))) (bit_at more i == 1)) (get_or (bits_at others i) r false)) state_is
    ∙ relation_place relation _ _ (2 ^ i) _ _ (low_below (sum slices more r i) (2 ^ i) (pow_pos i) (sum_small slices more r i)) (upto_small others r i)
    ∙ ap₂ (relation_holds relation)
    (sym (low_more (sum slices more r i) (2 ^ i) (get_or (bits_at slices i) r false) (bit_at more i == 1) (pow_pos i) (sum_small slices more r i))
    ∙ ap₂ low (sym (sum_more slices more r i)) (sym (double i)))
    (sym (upto_more others 0 r i))

-- a sum that is below the power has no carry
pub low_all : (s m : ℕ) → s < m → low s m ≡ s
low_all s m below = let none : nat_le m s ≡ false = grind (arith, nat_tests) in ap (λ k. s - cond k m 0) none ∙ omega arith

-- no place yet
pub none_yet : (slices : List BitList) (more r : ℕ) → sum slices more r 0 ≡ 0
none_yet slices more r = ap (λ n. n + more % 2 ^ 0) (number_none r) ∙ omega arith

-- neither row is null
pub both_there : (comparison : ColumnComparison) (was first second : Bool) (x y : ℕ) → (((was && first) && second) && compares_numbers comparison x y)
    ≡ (was && compares_entries comparison (if first then Some x else None) (if second then Some y else None))
both_there comparison true true true x y = refl
both_there comparison true true false x y = refl
both_there comparison true false true x y = refl
both_there comparison true false false x y = refl
both_there comparison false first second x y = refl
