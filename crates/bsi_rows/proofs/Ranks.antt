-- A list of numbers has one number of a rank, and that of the middle rank is its lower median.
use Rattle.std.proofs.Common.{◌≡◌, ℕ, ◌-◌, ◌/◌, ◌<◌, ◌≤◌, suc, true, false, cond, List, [], ◌∷◌, Option, Some, None, ℤ, length, inl, inr, ap, refl, arith}
use Rattle.std.specs.Prelude.{Contains, count_by, int_le, int_lt, ◌&&◌}
use Rattle.std.proofs.lemmas.Bool.{cases_Bool}
use Rattle.std.proofs.lemmas.Bool.Decides.{nat_tests}
use Rattle.std.proofs.lemmas.Int.{ints}
use Rattle.std.proofs.lemmas.List.{nil_from_length}
use Rattle.std.proofs.lemmas.List.Sums.{sum_by-cons, count_by-le-length}
use Rattle.bsi_digits.specs.WholeNumbers.{IsSignedMedianOf}
use Rattle.bsi_digits.specs.Ranks.{IsSignedRanked, IsSignedRankOf}

neither_way : (x y : ℤ) → int_lt x y ≡ false → int_lt y x ≡ false → x ≡ y
neither_way x y below above = grind (arith, ints, nat_tests)

-- ---- a rank has one number

-- of a number that is at most the lower one, the higher one is above
one_counted : (n x y : ℤ) → int_lt x y ≡ true → cond (int_le n x) 1 0 ≤ cond (int_lt n y) 1 0
one_counted n x y rises = grind (arith, ints, nat_tests)

counted : (x y : ℤ) → int_lt x y ≡ true → (numbers : List ℤ) → count_by (λ n. int_le n x) numbers ≤ count_by (λ n. int_lt n y) numbers
counted x y rises [] = omega arith
counted x y rises (n ∷ numbers) =
    let rest : count_by (λ n. int_le n x) numbers ≤ count_by (λ n. int_lt n y) numbers = counted x y rises numbers in
    omega (arith, one_counted n x y rises, rest, sum_by-cons (λ n. cond (int_le n x) 1 0) n numbers, sum_by-cons (λ n. cond (int_lt n y) 1 0) n numbers)

module _ (rank : ℕ) (numbers : List ℤ) where
  not_below : (x y : ℤ) → IsSignedRanked rank numbers x → IsSignedRanked rank numbers y → int_lt x y ≡ false
  not_below x y is_x is_y = elim (cases_Bool (int_lt x y)) [
    | inl below ↦ absurd (omega (arith, counted x y below numbers, is_x.1, is_y.0))
    | inr above ↦ above
  ]

  no_number : (x : ℤ) → length numbers ≤ rank → IsSignedRanked rank numbers x → ⊥
  no_number x past is = absurd (omega (arith, past, is.1, count_by-le-length (λ n. int_le n x) numbers))

  pub one_rank : (a b : Option ℤ) → IsSignedRankOf rank numbers a → IsSignedRankOf rank numbers b → a ≡ b
  one_rank None None is_a is_b = refl
  one_rank None (Some y) is_a is_b = absurd (no_number y is_a is_b)
  one_rank (Some x) None is_a is_b = absurd (no_number x is_b is_a)
  one_rank (Some x) (Some y) is_a is_b = ap Some (neither_way x y (not_below x y is_a is_b) (not_below y x is_b is_a))

-- ---- the middle rank

is_same : (n m : ℤ) → (int_le n m && int_le m n) ≡ true → n ≡ m
is_same n m same = grind (arith, ints, nat_tests, same)

is_below : (n m : ℤ) → (int_le n m && int_le m n) ≡ false → cond (int_le n m) 1 0 ≤ cond (int_lt n m) 1 0
is_below n m other = grind (arith, ints, nat_tests, other)

-- more numbers are at most this one than below it only where it is one of them
member : (m : ℤ) (numbers : List ℤ) → count_by (λ n. int_lt n m) numbers < count_by (λ n. int_le n m) numbers → Contains numbers m
member m [] more = absurd (omega (arith, more))
member m (n ∷ numbers) more = elim (cases_Bool (int_le n m && int_le m n)) [
  | inl same ↦ (0, omega arith, is_same n m same)
  | inr other ↦
      let selection = member m numbers
      (omega (arith, more, is_below n m other, sum_by-cons (λ n. cond (int_le n m) 1 0) n numbers, sum_by-cons (λ n. cond (int_lt n m) 1 0) n numbers)) in
      (suc selection.0, omega (arith, selection.1), selection.2)
]

module _ (numbers : List ℤ) where
  pub median_is_middle : (answer : Option ℤ) → IsSignedMedianOf numbers answer → IsSignedRankOf ((length numbers - 1) / 2) numbers answer
  median_is_middle None is = omega (arith, ap (λ xs. length xs) is)
  median_is_middle (Some m) is = (omega (arith, is.fewer_below), omega (arith, is.half, is.fewer_below))

  pub middle_is_median : (answer : Option ℤ) → IsSignedRankOf ((length numbers - 1) / 2) numbers answer → IsSignedMedianOf numbers answer
  middle_is_median None is = nil_from_length numbers (omega (arith, is))
  middle_is_median (Some m) is =
      let all = count_by-le-length (λ n. int_le n m) numbers in
      record {
        member = member m numbers (omega (arith, is.0, is.1));
        half = omega (arith, is.1);
        fewer_below = omega (arith, is.0, is.1, all);
      }
