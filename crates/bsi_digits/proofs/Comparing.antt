-- Two values compare as their digits do, from the most significant down.
use Rattle.std.proofs.Common.{◌≡◌, ℕ, zero, suc, ◌+◌, ◌*◌, ◌/◌, ◌%◌, ◌<◌, ◌≤◌, List, [], ◌∷◌, ◌++◌, length, reverse, refl, sym, ◌∙◌, ap, arith}
use Rattle.std.specs.declared.cmp.Ordering.{Ordering}
use Rattle.std.specs.declared.cmp.Ordering.TheVariants.{Less, Equal, Greater}
use Rattle.std.specs.Ordering.{nat_cmp, ordering_then}
use Rattle.std.specs.Cmp.Lexicographic.{slice_cmp}
use Rattle.std.proofs.lemmas.Bool.Decides.{nat_tests}
use Rattle.std.proofs.lemmas.List.{reverse-append, length-reverse}
use Rattle.std.proofs.lemmas.Nat.{div_below, mod_below, div-add-mod'}
use Rattle.bsi_digits.specs.Digits.{product, digits_of}
use Rattle.bsi_digits.proofs.Parts.{apart, length-digits_of}
use Rattle.bsi_digits.proofs.DigitLists.{digits_of-cons}

then-assoc : (a b c : Ordering) → ordering_then a (ordering_then b c) ≡ ordering_then (ordering_then a b) c
then-assoc Less b c = refl
then-assoc Equal b c = refl
then-assoc Greater b c = refl

then-Equal : (a : Ordering) → ordering_then a Equal ≡ a
then-Equal Less = refl
then-Equal Equal = refl
then-Equal Greater = refl

-- lists of one length with one more element each
slice_cmp-append : (xs ys : List ℕ) (x y : ℕ) → length xs ≡ length ys →
    slice_cmp nat_cmp (xs ++ x ∷ []) (ys ++ y ∷ []) ≡ ordering_then (slice_cmp nat_cmp xs ys) (nat_cmp x y)
slice_cmp-append [] [] x y same = then-Equal (nat_cmp x y)
slice_cmp-append [] (b ∷ ys) x y same = absurd (omega arith)
slice_cmp-append (a ∷ xs) [] x y same = absurd (omega arith)
slice_cmp-append (a ∷ xs) (b ∷ ys) x y same =
    ap (λ o. ordering_then (nat_cmp a b) o) (slice_cmp-append xs ys x y (omega arith)) ∙
    then-assoc (nat_cmp a b) (slice_cmp nat_cmp xs ys) (nat_cmp x y)

-- numbers of two parts
pub two_cmp : (w x y q p : ℕ) → x < w → y < w → nat_cmp (q * w + x) (p * w + y) ≡ ordering_then (nat_cmp q p) (nat_cmp x y)
two_cmp w x y q p small other =
    let below : q < p → q * w + w ≤ p * w = apart w q p in
    let above : p < q → p * w + w ≤ q * w = apart w p q in
    let same : q ≡ p → q * w ≡ p * w = λ e. ap (λ n. n * w) e in
    grind (arith, nat_tests)

quotient_cmp : (b u v : ℕ) → 0 < b → nat_cmp u v ≡ ordering_then (nat_cmp (u / b) (v / b)) (nat_cmp (u % b) (v % b))
quotient_cmp b u v pos =
    ap (λ n. nat_cmp n v) (sym (div-add-mod' u b)) ∙ ap (λ n. nat_cmp (u / b * b + u % b) n) (sym (div-add-mod' v b)) ∙
    two_cmp b (u % b) (v % b) (u / b) (v / b) (mod_below u b pos) (mod_below v b pos)

reverse-cons : (x : ℕ) (xs : List ℕ) → reverse (x ∷ xs) ≡ reverse xs ++ x ∷ []
reverse-cons x xs = reverse-append (x ∷ []) xs

pub slice_cmp-digits_of : (bs : List ℕ) (u v : ℕ) → u < product bs → v < product bs →
    slice_cmp nat_cmp (reverse (digits_of bs u)) (reverse (digits_of bs v)) ≡ nat_cmp u v
slice_cmp-digits_of [] u v small other =
    let same : u ≡ v = omega arith in
    grind (arith, nat_tests)
slice_cmp-digits_of (zero ∷ bs) u v small other = absurd (omega arith)
slice_cmp-digits_of (suc c ∷ bs) u v small other =
    let b : ℕ = suc c in
    let turned = λ (n : ℕ). ap reverse (digits_of-cons b bs n) ∙ reverse-cons (n % b) (digits_of bs (n / b)) in
    let long = λ (n : ℕ). length-reverse (digits_of bs n) ∙ length-digits_of bs n in
    ap (λ ds. slice_cmp nat_cmp ds (reverse (digits_of (b ∷ bs) v))) (turned u) ∙
    ap (λ ds. slice_cmp nat_cmp (reverse (digits_of bs (u / b)) ++ (u % b) ∷ []) ds) (turned v) ∙
    slice_cmp-append (reverse (digits_of bs (u / b))) (reverse (digits_of bs (v / b))) (u % b) (v % b)
    (long (u / b) ∙ sym (long (v / b))) ∙
    ap (λ o. ordering_then o (nat_cmp (u % b) (v % b)))
    (slice_cmp-digits_of bs (u / b) (v / b) (div_below u b (product bs) (omega arith) (omega arith))
    (div_below v b (product bs) (omega arith) (omega arith))) ∙
    sym (quotient_cmp b u v (omega arith))
