-- A value below the size has exactly one list of digits.
use Rattle.std.proofs.Common.{◌≡◌, ℕ, zero, suc, ◌+◌, ◌*◌, ◌/◌, ◌%◌, ◌<◌, List, [], ◌∷◌, length, take, map, get_or, sum_by, refl, sym, ◌∙◌, ap, arith, add-one}
use Rattle.std.specs.List.{range_with_len}
use Rattle.std.proofs.Math.Nat.{mod-add-div, div-div-eq-div-mul}
use Rattle.std.proofs.lemmas.Nat.{div_below, div-mul-add, mod-mul-add}
use Rattle.std.proofs.lemmas.List.Sums.{sum_by-cons}
use Rattle.bsi_digits.specs.Digits.{product, components, digit_of, digits_of, weighted_sum, IsDigits, IsBaseList}
use Rattle.bsi_digits.proofs.Parts.{length-digits_of, get_or-digits_of, digit_below}

-- a list made of each number from a + 1 on is one made of each from a on, by the number after it
map-range_shifted : (f g : ℕ → ℕ) (a n : ℕ) → ((i : ℕ) → f (suc i) ≡ g i) → map f (range_with_len (a + 1) n) ≡ map g (range_with_len a n)
map-range_shifted f g a zero same = refl
map-range_shifted f g a (suc n) same =
    let first : f (a + 1) ≡ g a = ap f (add-one a) ∙ same a in
    ap (λ d. d ∷ map f (range_with_len (a + 1 + 1) n)) first ∙ ap (λ ds. g a ∷ ds) (map-range_shifted f g (a + 1) n same)

-- with a base more at the front, the digits are the remainder and then the quotient's
pub digits_of-cons : (b : ℕ) (bs : List ℕ) (v : ℕ) → digits_of (b ∷ bs) v ≡ v % b ∷ digits_of bs (v / b)
digits_of-cons b bs v =
    let first : v / 1 % b ≡ v % b = ap (λ n. n % b) (omega arith) in
    let more = λ (i : ℕ). ap (λ n. n % get_or bs i 0) (sym (div-div-eq-div-mul v b (product (take i bs)))) in
    ap (λ d. d ∷ map (digit_of (b ∷ bs) v) (range_with_len 1 (length bs))) first ∙
    ap (λ ds. v % b ∷ ds) (map-range_shifted (digit_of (b ∷ bs) v) (digit_of bs (v / b)) 0 (length bs) more)

sum_by-range_shifted : (f g : ℕ → ℕ) (b a n : ℕ) → ((i : ℕ) → f (suc i) ≡ b * g i) →
    sum_by f (range_with_len (a + 1) n) ≡ b * sum_by g (range_with_len a n)
sum_by-range_shifted f g b a zero same = omega arith
sum_by-range_shifted f g b a (suc n) same =
    let first : f (a + 1) ≡ b * g a = ap f (add-one a) ∙ same a in
    let more : sum_by f (range_with_len (a + 1 + 1) n) ≡ b * sum_by g (range_with_len (a + 1) n) = sum_by-range_shifted f g b (a + 1) n same in
    let both : f (a + 1) + sum_by f (range_with_len (a + 1 + 1) n) ≡ b * (g a + sum_by g (range_with_len (a + 1) n)) = omega arith in
    sum_by-cons f (a + 1) (range_with_len (a + 1 + 1) n) ∙ both ∙
    ap (λ n. b * n) (sym (sum_by-cons g a (range_with_len (a + 1) n)))

-- and the weighted sum is the first digit and the base times that of the others
pub weighted_sum-cons : (b : ℕ) (bs : List ℕ) (d : ℕ) (ds : List ℕ) →
    weighted_sum (b ∷ bs) (d ∷ ds) (components (b ∷ bs)) ≡ d + b * weighted_sum bs ds (components bs)
weighted_sum-cons b bs d ds =
    let f = λ (i : ℕ). get_or (d ∷ ds) i 0 * product (take i (b ∷ bs)) in
    let g = λ (i : ℕ). get_or ds i 0 * product (take i bs) in
    let turned = λ (i : ℕ). let P : get_or ds i 0 * (b * product (take i bs)) ≡ b * (get_or ds i 0 * product (take i bs)) = omega arith in P in
    let more : sum_by f (range_with_len 1 (length bs)) ≡ b * sum_by g (range_with_len 0 (length bs)) =
    sum_by-range_shifted f g b 0 (length bs) turned in
    let first : d * 1 ≡ d = omega arith in
    sum_by-cons f 0 (range_with_len 1 (length bs)) ∙ ap (λ n. n + sum_by f (range_with_len 1 (length bs))) first ∙ ap (λ n. d + n) more

-- the digits of a value weigh it
pub weighted_sum-digits_of : (bs : List ℕ) (v : ℕ) → v < product bs → weighted_sum bs (digits_of bs v) (components bs) ≡ v
weighted_sum-digits_of [] v small = omega arith
weighted_sum-digits_of (zero ∷ bs) v small = absurd (omega arith)
weighted_sum-digits_of (suc c ∷ bs) v small =
    let b : ℕ = suc c in
    let below : v / b < product bs = div_below v b (product bs) (omega arith) (omega arith) in
    ap (λ ds. weighted_sum (b ∷ bs) ds (components (b ∷ bs))) (digits_of-cons b bs v) ∙
    weighted_sum-cons b bs (v % b) (digits_of bs (v / b)) ∙
    ap (λ n. v % b + b * n) (weighted_sum-digits_of bs (v / b) below) ∙ mod-add-div v b

-- a list of digits below their bases that weighs v is that of v's digits
pub same_digits : (bs ds : List ℕ) (v : ℕ) → length ds ≡ length bs → ((i : ℕ) → i < length bs → get_or ds i 0 < get_or bs i 0) →
    weighted_sum bs ds (components bs) ≡ v → ds ≡ digits_of bs v
same_digits [] [] v count below total = refl
same_digits [] (d ∷ ds) v count below total = absurd (omega arith)
same_digits (b ∷ bs) [] v count below total = absurd (omega arith)
same_digits (b ∷ bs) (d ∷ ds) v count below total =
    let rest : ℕ = weighted_sum bs ds (components bs) in
    let whole : v ≡ rest * b + d = sym total ∙ weighted_sum-cons b bs d ds ∙ omega arith in
    let small : d < b = below 0 (omega arith) in
    let first : v % b ≡ d = ap (λ n. n % b) whole ∙ mod-mul-add rest b d small in
    let high : v / b ≡ rest = ap (λ n. n / b) whole ∙ div-mul-add rest b d small in
    let more : ds ≡ digits_of bs rest = same_digits bs ds rest (omega arith) (λ i h. below (suc i) (omega arith)) refl in
    ap (λ n. n ∷ ds) (sym first) ∙ ap (λ xs. v % b ∷ xs) (more ∙ ap (λ n. digits_of bs n) (sym high)) ∙ sym (digits_of-cons b bs v)

-- what a value below the size has
pub IsDigits-digits_of : (bs : List ℕ) (v : ℕ) → IsBaseList bs → v < product bs → IsDigits bs v (digits_of bs v)
IsDigits-digits_of bs v valid small = record {
  count = length-digits_of bs v;
  below = λ i h. rw (get_or-digits_of bs v i h) (digit_below valid v i h);
  total = weighted_sum-digits_of bs v small;
}
