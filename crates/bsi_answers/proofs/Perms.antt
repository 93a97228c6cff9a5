-- Lists of the same elements in another order.
use Rattle.std.proofs.Common.{◌≡◌, Bool, true, false, cond, List, [], ◌∷◌, length, map, filter, filter_map, Option, Some, None, ℤ, ◌+ℤ◌, refl, ap, sym, ◌∙◌, arith}
use Rattle.std.specs.List.{cons_option}
use Rattle.std.specs.List.Sorted.{IsPermutation}
use Rattle.std.proofs.lemmas.Int.{ints}
use Rattle.std.proofs.lemmas.List.Sorted.{IsPermutation-cons, IsPermutation-middle, IsPermutation-refl, IsPermutation-trans}
use Rattle.bsi_digits.specs.WholeNumbers.{signed_sum}

pub data Perm {X : Type 0} : List X → List X → Type 0 where
  stay : (xs : List X) → Perm xs xs
  keep : (x : X) (xs ys : List X) → Perm xs ys → Perm (x ∷ xs) (x ∷ ys)
  swap : (x y : X) (xs : List X) → Perm (x ∷ y ∷ xs) (y ∷ x ∷ xs)
  join : (xs ys zs : List X) → Perm xs ys → Perm ys zs → Perm xs zs

pub flipped : {X : Type 0} (xs ys : List X) → Perm xs ys → Perm ys xs
flipped _ _ (stay xs) = stay xs
flipped _ _ (keep x xs ys p) = keep x ys xs (flipped xs ys p)
flipped _ _ (swap x y xs) = swap y x xs
flipped _ _ (join xs ys zs p q) = join zs ys xs (flipped ys zs q) (flipped xs ys p)

pub mapped : {X Y : Type 0} (f : X → Y) (xs ys : List X) → Perm xs ys → Perm (map f xs) (map f ys)
mapped f _ _ (stay xs) = stay (map f xs)
mapped f _ _ (keep x xs ys p) = keep (f x) (map f xs) (map f ys) (mapped f xs ys p)
mapped f _ _ (swap x y xs) = swap (f x) (f y) (map f xs)
mapped f _ _ (join xs ys zs p q) = join (map f xs) (map f ys) (map f zs) (mapped f xs ys p) (mapped f ys zs q)

abbrev kept : {X : Type 0} → Bool → X → List X → List X
kept true x xs = x ∷ xs
kept false x xs = xs

kept_perm : {X : Type 0} (b : Bool) (x : X) (xs ys : List X) → Perm xs ys → Perm (cond b (x ∷ xs) xs) (cond b (x ∷ ys) ys)
kept_perm true x xs ys p = keep x xs ys p
kept_perm false x xs ys p = p

kept_swap : {X : Type 0} (a b : Bool) (x y : X) (xs : List X)
    → Perm (cond a (x ∷ cond b (y ∷ xs) xs) (cond b (y ∷ xs) xs)) (cond b (y ∷ cond a (x ∷ xs) xs) (cond a (x ∷ xs) xs))
kept_swap true true x y xs = swap x y xs
kept_swap true false x y xs = stay (x ∷ xs)
kept_swap false true x y xs = stay (y ∷ xs)
kept_swap false false x y xs = stay xs

pub filtered : {X : Type 0} (f : X → Bool) (xs ys : List X) → Perm xs ys → Perm (filter f xs) (filter f ys)
filtered f _ _ (stay xs) = stay (filter f xs)
filtered f _ _ (keep x xs ys p) = kept_perm (f x) x (filter f xs) (filter f ys) (filtered f xs ys p)
filtered f _ _ (swap x y xs) = kept_swap (f x) (f y) x y (filter f xs)
filtered f _ _ (join xs ys zs p q) = join (filter f xs) (filter f ys) (filter f zs) (filtered f xs ys p) (filtered f ys zs q)

option_perm : {X : Type 0} (o : Option X) (xs ys : List X) → Perm xs ys → Perm (cons_option o xs) (cons_option o ys)
option_perm None xs ys p = p
option_perm (Some x) xs ys p = keep x xs ys p

option_swap : {X : Type 0} (o p : Option X) (xs : List X) → Perm (cons_option o (cons_option p xs)) (cons_option p (cons_option o xs))
option_swap None p xs = stay (cons_option p xs)
option_swap (Some x) None xs = stay (x ∷ xs)
option_swap (Some x) (Some y) xs = swap x y xs

pub as_long : {X : Type 0} (xs ys : List X) → Perm xs ys → length xs ≡ length ys
as_long _ _ (stay xs) = refl
as_long _ _ (keep x xs ys p) = (let e = as_long xs ys p in omega arith)
as_long _ _ (swap x y xs) = refl
as_long _ _ (join xs ys zs p q) = as_long xs ys p ∙ as_long ys zs q

pub same_sum : (xs ys : List ℤ) → Perm xs ys → signed_sum xs ≡ signed_sum ys
unfolding signed_sum
same_sum _ _ (stay xs) = refl
same_sum _ _ (keep x xs ys p) = ap (λ s. x +ℤ s) (same_sum xs ys p)
same_sum _ _ (swap x y xs) = exchange x y (signed_sum xs)
  where
    exchange : (x y s : ℤ) → x +ℤ (y +ℤ s) ≡ y +ℤ (x +ℤ s)
    exchange x y s = omega (arith, ints)
same_sum _ _ (join xs ys zs p q) = same_sum xs ys p ∙ same_sum ys zs q

pub is_permutation : {X : Type 0} (xs ys : List X) → Perm xs ys → IsPermutation xs ys
is_permutation _ _ (stay xs) = IsPermutation-refl xs
is_permutation _ _ (keep x xs ys p) = IsPermutation-cons x xs ys (is_permutation xs ys p)
is_permutation _ _ (swap x y xs) = IsPermutation-middle (x ∷ []) y xs
is_permutation _ _ (join xs ys zs p q) = IsPermutation-trans xs ys zs (is_permutation xs ys p) (is_permutation ys zs q)

pub chosen : {X Y : Type 0} (f : X → Option Y) (xs ys : List X) → Perm xs ys → Perm (filter_map f xs) (filter_map f ys)
chosen f _ _ (stay xs) = stay (filter_map f xs)
chosen f _ _ (keep x xs ys p) = option_perm (f x) (filter_map f xs) (filter_map f ys) (chosen f xs ys p)
chosen f _ _ (swap x y xs) = option_swap (f x) (f y) (filter_map f xs)
chosen f _ _ (join xs ys zs p q) = join (filter_map f xs) (filter_map f ys) (filter_map f zs) (chosen f xs ys p) (chosen f ys zs q)

length_none : {X : Type 0} (zs : List X) → length zs ≡ 0 → zs ≡ []
length_none [] e = refl
length_none (z ∷ zs) e = absurd (omega arith)

pub of_none : {X : Type 0} (xs ys : List X) → Perm xs ys → xs ≡ [] → ys ≡ []
of_none xs ys p none = length_none ys (sym (as_long xs ys p) ∙ ap length none)
