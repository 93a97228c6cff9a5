-- A list of rows, each by its feeder and its number, can be sorted in one way.
use Rattle.std.proofs.Common.{◌≡◌, ℕ, suc, ◌+◌, ◌<◌, Bool, true, false, cond, List, [], ◌∷◌, length, refl, ap, ap₂, sym, ◌∙◌, subst, arith}
use Rattle.std.specs.Prelude.{nat_eq, nat_lt, slice_index_or, ◌&&◌}
use Rattle.std.specs.Cmp.{nat_cmp_is, IsStrictWeakOrder}
use Rattle.std.specs.List.{sum_by}
use Rattle.std.specs.List.Sorted.{IsPermutation, IsSorted}
use Rattle.std.specs.Ordering.{nat_cmp, ordering_then, is_lt}
use Rattle.std.specs.declared.cmp.Ordering.TheVariants.{Less, Equal}
use Rattle.std.proofs.lemmas.Bool.Decides.{nat_tests}
use Rattle.std.proofs.lemmas.Cmp.{nat_cmp_total, on_total, then_total}
use Rattle.std.proofs.lemmas.List.MinMax.{ranks_by}
use Rattle.std.proofs.lemmas.List.Sorted.{sorted_far, sum_by-IsPermutation}
use Rattle.std.proofs.lemmas.List.Sums.{sum_by-cons}
use Rattle.bsi_rows.specs.ByFeeder.{by_origin}

abbrev Place : Type 0
Place = ℕ × ℕ

-- ---- of two places that neither comes before the other

data IsOrdered (a b : ℕ) : Type 0 where
  is_below : a < b → IsOrdered a b
  is_same : a ≡ b → IsOrdered a b
  is_above : b < a → IsOrdered a b

ordered : (a b : ℕ) → IsOrdered a b
ordered a b = by (nat_lt a b) (nat_lt b a) refl refl
  where
    by : (p q : Bool) → nat_lt a b ≡ p → nat_lt b a ≡ q → IsOrdered a b
    by true q e f = is_below (grind (arith, nat_tests))
    by false true e f = is_above (grind (arith, nat_tests))
    by false false e f = is_same (grind (arith, nat_tests))

-- a test that says no, where the order says that it comes before
first_below : (a b c d : ℕ) → a < b → is_lt (ordering_then (nat_cmp a b) (nat_cmp c d)) ≡ false → ⊥
first_below a b c d lt not_so =
    let wrong : is_lt (ordering_then Less (nat_cmp c d)) ≡ false =
    subst (λ r. is_lt (ordering_then r (nat_cmp c d)) ≡ false) (sym (nat_cmp_is a b Less lt)) not_so in
    absurd (cc (wrong))

second_below : (a b c d : ℕ) → a ≡ b → c < d → is_lt (ordering_then (nat_cmp a b) (nat_cmp c d)) ≡ false → ⊥
second_below a b c d eq lt not_so =
    let one : is_lt (ordering_then Equal (nat_cmp c d)) ≡ false =
    subst (λ r. is_lt (ordering_then r (nat_cmp c d)) ≡ false) (sym (nat_cmp_is a b Equal eq)) not_so in
    let wrong : is_lt Less ≡ false = subst (λ r. is_lt r ≡ false) (sym (nat_cmp_is c d Less lt)) one in
    absurd (cc (wrong))

pair : (a b c d : ℕ) → a ≡ b → c ≡ d → (let x : Place = (a, c) in let y : Place = (b, d) in x ≡ y)
pair a b c d one two = cc

neither : (x y : Place) → is_lt (by_origin x y) ≡ false → is_lt (by_origin y x) ≡ false → x ≡ y
neither x y one two = by (ordered x.0 y.0) (ordered x.1 y.1)
  where
    by : IsOrdered x.0 y.0 → IsOrdered x.1 y.1 → x ≡ y
    by (is_below lt) b = absurd (first_below x.0 y.0 x.1 y.1 lt one)
    by (is_above lt) b = absurd (first_below y.0 x.0 y.1 x.1 lt two)
    by (is_same e) (is_below lt) = absurd (second_below x.0 y.0 x.1 y.1 e lt one)
    by (is_same e) (is_above lt) = absurd (second_below y.0 x.0 y.1 x.1 (sym e) lt two)
    by (is_same e) (is_same f) = pair x.0 y.0 x.1 y.1 e f

-- ---- how often a place stands in a list

is_place : Place → Place → Bool
is_place z x = nat_eq z.0 x.0 && nat_eq z.1 x.1

weight : Bool → ℕ
weight b = cond b 1 0

one_of : Place → Place → ℕ
one_of z x = weight (is_place z x)

often : Place → List Place → ℕ
often z xs = sum_by (λ x. one_of z x) xs

place_self : (z : Place) → is_place z z ≡ true
unfolding is_place
place_self z = grind (arith, nat_tests)

place_is : (z x : Place) → is_place z x ≡ true → z ≡ x
unfolding is_place
place_is z x is = (let one : z.0 ≡ x.0 = grind (arith, nat_tests) in let two : z.1 ≡ x.1 = grind (arith, nat_tests) in pair z.0 x.0 z.1 x.1 one two)

-- where it stands
record StandsIn (z : Place) (xs : List Place) : Type 0 where
  at : ℕ
  within : at < length xs
  is : (d : Place) → slice_index_or xs at d ≡ z

wrote : (z : Place) (xs : List Place) → 0 < often z xs → StandsIn z xs
unfolding often one_of weight
wrote z [] there = absurd (omega arith)
wrote z (x ∷ xs) there = by (is_place z x) refl (λ more. wrote z xs more)
  where
    by : (b : Bool) → is_place z x ≡ b → (0 < often z xs → StandsIn z xs) → StandsIn z (x ∷ xs)
    by true e rest = record { at = 0; within = omega arith; is = λ d. sym (place_is z x e) }
    by false e rest =
        let none : one_of z x ≡ 0 = ap weight e in
        let one = rest (omega (arith, there, none, sum_by-cons (λ y. one_of z y) x xs)) in
        record { at = suc one.at; within = omega (arith, one.within); is = one.is }

-- ---- sorted lists

less : Place → Place → Bool
less x y = is_lt (by_origin x y)

abbrev Ascends : List Place → Type 0
Ascends xs = IsSorted by_origin xs

ranks : IsStrictWeakOrder (λ x y. is_lt (by_origin x y))
ranks =
    ranks_by {K = Place} (then_total {K = Place} (on_total (λ (x : Place). x.0) nat_cmp_total) (on_total (λ (x : Place). x.1) nat_cmp_total)) (λ (x : Place). x)

head_first : (x : Place) (xs : List Place) → Ascends (x ∷ xs) → (z : Place) → 0 < often z (x ∷ xs) → is_lt (by_origin z x) ≡ false
head_first x xs up z there =
    let at = wrote z (x ∷ xs) there in
    subst (λ (y : Place). is_lt (by_origin y x) ≡ false) (at.is x)
    (sorted_far (λ x y. is_lt (by_origin x y)) ranks (x ∷ xs) up 0 at.at x (omega arith) at.within)

tail_up : (x : Place) (xs : List Place) → Ascends (x ∷ xs) → Ascends xs
tail_up x xs up k d from to =
    let at : suc k + 1 ≡ suc (k + 1) = omega arith in
    subst (λ m. is_lt (by_origin (slice_index_or (x ∷ xs) m d) (slice_index_or xs k d)) ≡ false) at (up (suc k) d (omega arith) (omega (arith, to)))

self_often : (x : Place) (xs : List Place) → 0 < often x (x ∷ xs)
unfolding often one_of weight
self_often x xs =
    let one : one_of x x ≡ 1 = ap weight (place_self x) in
    omega (arith, one, sum_by-cons (λ y. one_of x y) x xs)

same_lists : (xs ys : List Place) → Ascends xs → Ascends ys → ((z : Place) → often z xs ≡ often z ys) → xs ≡ ys
unfolding often
same_lists [] [] up_x up_y alike = refl
same_lists [] (y ∷ ys) up_x up_y alike = (let there = self_often y ys in absurd (omega (arith, there, alike y)))
same_lists (x ∷ xs) [] up_x up_y alike = (let there = self_often x xs in absurd (omega (arith, there, alike x)))
same_lists (x ∷ xs) (y ∷ ys) up_x up_y alike =
    let x_there : 0 < often x (y ∷ ys) = subst (λ n. 0 < n) (alike x) (self_often x xs) in
    let y_there : 0 < often y (x ∷ xs) = subst (λ n. 0 < n) (sym (alike y)) (self_often y ys) in
    let head : x ≡ y = neither x y (head_first y ys up_y x x_there) (head_first x xs up_x y y_there) in
    let rest : (z : Place) → often z xs ≡ often z ys = λ z.
    (let one : one_of z x ≡ one_of z y = ap (λ w. one_of z w) head in
    omega (arith, one, alike z, sum_by-cons (λ w. one_of z w) x xs, sum_by-cons (λ w. one_of z w) y ys)) in
    ap₂ (λ w ws. w ∷ ws) head (same_lists xs ys (tail_up x xs up_x) (tail_up y ys up_y) rest)

pub one_sorting : (rows xs ys : List (ℕ × ℕ)) → IsPermutation rows xs → IsSorted by_origin xs → IsPermutation rows ys → IsSorted by_origin ys → xs ≡ ys
unfolding often
one_sorting rows xs ys to_xs up_x to_ys up_y =
    same_lists xs ys up_x up_y (λ z. sum_by-IsPermutation (λ x. one_of z x) rows xs to_xs ∙ sym (sum_by-IsPermutation (λ x. one_of z x) rows ys to_ys))
