-- A list of numbers has one least number, one greatest and one lower median.
use Rattle.std.proofs.Common.{◌≡◌, ℕ, ◌+◌, ◌≤◌, Bool, true, false, cond, List, [], ◌∷◌, Option, Some, None, ℤ, inl, inr, ap, refl, arith}
use Rattle.std.specs.Prelude.{Contains, IsTrue, count_by, int_le, int_lt}
use Rattle.std.proofs.lemmas.Bool.{cases_Bool}
use Rattle.std.proofs.lemmas.Bool.Decides.{nat_tests}
use Rattle.std.proofs.lemmas.Int.{ints}
use Rattle.std.proofs.lemmas.List.Elements.{All-contains}
use Rattle.std.proofs.lemmas.List.Sums.{sum_by-cons}
use Rattle.bsi_digits.specs.WholeNumbers.{IsSignedGreatestOf, IsSignedLeastOf, IsSignedMedianOf, signed_order}
use Rattle.bsi_digits.specs.Orders.{IsGreatestBy, IsLeastBy, IsLowerMedianBy, IsNoneOr}

both_ways : (x y : ℤ) → int_le x y ≡ true → int_le y x ≡ true → x ≡ y
both_ways x y below above = grind (arith, ints, nat_tests)

neither_way : (x y : ℤ) → int_lt x y ≡ false → int_lt y x ≡ false → x ≡ y
neither_way x y below above = grind (arith, ints, nat_tests)

between : (x low high : ℤ) → int_lt low high ≡ true → int_le x low ≡ true → int_lt x high ≡ true
between x low high rises at_most = grind (arith, ints, nat_tests)

least : (numbers : List ℤ) (x y : ℤ) → IsLeastBy signed_order numbers x → IsLeastBy signed_order numbers y → x ≡ y
least numbers x y is_x is_y =
    both_ways x y (All-contains (λ n. IsTrue (int_le x n)) numbers y is_x.none_below is_y.member)
    (All-contains (λ n. IsTrue (int_le y n)) numbers x is_y.none_below is_x.member)

greatest : (numbers : List ℤ) (x y : ℤ) → IsGreatestBy signed_order numbers x → IsGreatestBy signed_order numbers y → x ≡ y
greatest numbers x y is_x is_y =
    both_ways x y (All-contains (λ n. IsTrue (int_le n y)) numbers x is_y.none_above is_x.member)
    (All-contains (λ n. IsTrue (int_le n x)) numbers y is_x.none_above is_y.member)

-- ---- the lower median

one_counted : (a b : Bool) (m n : ℕ) → (a ≡ true → b ≡ true) → m ≤ n → cond a 1 0 + m ≤ cond b 1 0 + n
one_counted true true m n then_so below = omega (arith, below)
one_counted true false m n then_so below = let no : false ≡ true = then_so refl in cc no
one_counted false true m n then_so below = omega (arith, below)
one_counted false false m n then_so below = omega (arith, below)

counted : {X : Type 0} (p q : X → Bool) → ((x : X) → p x ≡ true → q x ≡ true) → (xs : List X) → count_by p xs ≤ count_by q xs
counted p q then_so [] = omega arith
counted p q then_so (x ∷ xs) =
    let one : cond (p x) 1 0 + count_by p xs ≤ cond (q x) 1 0 + count_by q xs =
    one_counted (p x) (q x) (count_by p xs) (count_by q xs) (then_so x) (counted p q then_so xs) in
    omega (arith, one, sum_by-cons (λ y. cond (p y) 1 0) x xs, sum_by-cons (λ y. cond (q y) 1 0) x xs)

not_below : (numbers : List ℤ) (x y : ℤ) → IsLowerMedianBy signed_order numbers x → IsLowerMedianBy signed_order numbers y → int_lt x y ≡ false
not_below numbers x y is_x is_y = elim (cases_Bool (int_lt x y)) [
  | inl below ↦
      let few : count_by (λ n. int_le n x) numbers ≤ count_by (λ n. int_lt n y) numbers =
      counted (λ n. int_le n x) (λ n. int_lt n y) (λ n at_most. between n x y below at_most) numbers in
      absurd (omega (arith, few, is_x.half, is_y.fewer_below))
  | inr above ↦ above
]

median : (numbers : List ℤ) (x y : ℤ) → IsLowerMedianBy signed_order numbers x → IsLowerMedianBy signed_order numbers y → x ≡ y
median numbers x y is_x is_y = neither_way x y (not_below numbers x y is_x is_y) (not_below numbers y x is_y is_x)

-- ---- the answers, none where there is no number

not_there : (numbers : List ℤ) (x : ℤ) → numbers ≡ [] → Contains numbers x → ⊥
not_there [] x none there = absurd (omega (arith, there.1))
not_there (n ∷ numbers) x none there = cc none

abbrev IsMember : (List ℤ → ℤ → Type 0) → Type 0
IsMember Is = (numbers : List ℤ) (x : ℤ) → Is numbers x → Contains numbers x

one_answer : (Is : List ℤ → ℤ → Type 0) → IsMember Is → ((numbers : List ℤ) (x y : ℤ) → Is numbers x → Is numbers y → x ≡ y)
    → (numbers : List ℤ) (a b : Option ℤ) → IsNoneOr Is numbers a → IsNoneOr Is numbers b → a ≡ b
one_answer Is member one numbers None None is_a is_b = refl
one_answer Is member one numbers None (Some y) is_a is_b = absurd (not_there numbers y is_a (member numbers y is_b))
one_answer Is member one numbers (Some x) None is_a is_b = absurd (not_there numbers x is_b (member numbers x is_a))
one_answer Is member one numbers (Some x) (Some y) is_a is_b = ap Some (one numbers x y is_a is_b)

pub one_least : (numbers : List ℤ) (a b : Option ℤ) → IsSignedLeastOf numbers a → IsSignedLeastOf numbers b → a ≡ b
one_least = one_answer (IsLeastBy signed_order) (λ numbers x is. is.member) least

pub one_greatest : (numbers : List ℤ) (a b : Option ℤ) → IsSignedGreatestOf numbers a → IsSignedGreatestOf numbers b → a ≡ b
one_greatest = one_answer (IsGreatestBy signed_order) (λ numbers x is. is.member) greatest

pub one_median : (numbers : List ℤ) (a b : Option ℤ) → IsSignedMedianOf numbers a → IsSignedMedianOf numbers b → a ≡ b
one_median = one_answer (IsLowerMedianBy signed_order) (λ numbers x is. is.member) median
