-- The sum of the numbers of a selection, by their binary places.
use Rattle.std.proofs.Common.{◌≡◌, ℕ, ◌+◌, ◌-◌, ◌*◌, ◌%◌, ◌^◌, ◌<◌, ◌≤◌, zero, suc, Bool, true, false, List, [], ◌∷◌, Option, Some, None, All, length, map, get_or, ap, ap₂, sym, ◌∙◌, refl, arith, mod-eq_of_lt}
use Rattle.std.specs.Prelude.{sum, sum_by}
use Rattle.std.specs.List.{items_where_true}
use Rattle.std.proofs.Math.Nat.{pow-le-pow_right}
use Rattle.std.proofs.lemmas.Nat.{mod_below, mul-le, pow_pos}
use Rattle.std.proofs.lemmas.List.Sums.{sum_by-cons}
use Rattle.bsi_bits.specs.BitList.{BitList}
use Rattle.bsi_kernels.specs.Places.{has_place, IsEncoded}
use Rattle.bsi_digits.specs.Comparisons.{number_or_zero}
use Rattle.bsi_slices.specs.Slices.{entries_in, IsSliced}
use Rattle.bsi_digits.specs.Orders.{values_at}
use Rattle.bsi_slices.proofs.SliceEntries.{slice_of}

-- the digits at the selected rows, those of nulls being 0, add up as the digits of the numbers do
pub sum_selected : (g : ℕ → ℕ) → g 0 ≡ 0 → (selection : List Bool) (entries : List (Option ℕ))
    → sum (items_where_true selection (map (λ e. g (number_or_zero e)) entries)) ≡ sum_by g (values_at selection entries)
sum_selected g zero_is [] entries = refl
sum_selected g zero_is (f ∷ selection) [] = refl
sum_selected g zero_is (false ∷ selection) (e ∷ entries) = sum_selected g zero_is selection entries
sum_selected g zero_is (true ∷ selection) (None ∷ entries) =
    sum_by-cons (λ x. x) (g 0) (items_where_true selection (map (λ e. g (number_or_zero e)) entries)) ∙ ap₂ ◌+◌ zero_is (sum_selected g zero_is selection entries) ∙ omega arith
sum_selected g zero_is (true ∷ selection) (Some n ∷ entries) =
    sum_by-cons (λ x. x) (g n) (items_where_true selection (map (λ e. g (number_or_zero e)) entries))
    ∙ ap (λ t. g n + t) (sum_selected g zero_is selection entries) ∙ sym (sum_by-cons g n (values_at selection entries))

-- a sum of two-part numbers
pub sum_parts : (f g h : ℕ → ℕ) (w : ℕ) → ((n : ℕ) → f n ≡ g n * w + h n) → (xs : List ℕ) → sum_by f xs ≡ sum_by g xs * w + sum_by h xs
sum_parts f g h w parts [] = sym (omega arith)
sum_parts f g h w parts (x ∷ xs) =
    let rest = sum_parts f g h w parts xs in
    let heads = ap (λ t. t * w) (sum_by-cons g x xs) in
    omega (arith, rest, parts x, heads, sum_by-cons f x xs, sum_by-cons h x xs)

-- nothing is left of a number under 1
pub none_below_one : (numbers : List ℕ) → 0 ≡ sum_by (λ n. n % 1) numbers
none_below_one [] = refl
none_below_one (x ∷ xs) =
    let none : x % 1 ≡ 0 = omega arith in
    omega (arith, none_below_one xs, sum_by-cons (λ n. n % 1) x xs, none)

-- a bound of the entries is one of the numbers
pub number_below : (size : ℕ) (entries : List (Option ℕ)) → 0 < size → All (λ e. number_or_zero e < size) entries → (k : ℕ) → get_or (map number_or_zero entries) k 0 < size
number_below size [] some below k = some
number_below size (e ∷ entries) some below zero = below 0 e (omega arith)
number_below size (e ∷ entries) some below (suc k) = number_below size entries some (λ i d within. below (suc i) d (omega arith)) k

-- no more numbers than rows are found
pub length-values_at : (selection : List Bool) (entries : List (Option ℕ)) → length (values_at selection entries) ≤ length entries
length-values_at [] entries = omega arith
length-values_at (f ∷ selection) [] = omega arith
length-values_at (false ∷ selection) (e ∷ entries) = let rest = length-values_at selection entries in omega arith
length-values_at (true ∷ selection) (None ∷ entries) = let rest = length-values_at selection entries in omega arith
length-values_at (true ∷ selection) (Some n ∷ entries) = let rest = length-values_at selection entries in omega arith

-- a sum of parts that are each at most a bound
pub sum_bound : (f : ℕ → ℕ) (top : ℕ) → ((n : ℕ) → f n ≤ top) → (xs : List ℕ) → sum_by f xs ≤ length xs * top
sum_bound f top each [] = omega arith
sum_bound f top each (x ∷ xs) = let rest = sum_bound f top each xs in omega (arith, rest, each x, sum_by-cons f x xs)

-- numbers below the size are their own remainders
pub sum_whole : (size : ℕ) (selection : List Bool) (entries : List (Option ℕ)) → All (λ e. number_or_zero e < size) entries
    → sum_by (λ n. n % size) (values_at selection entries) ≡ sum (values_at selection entries)
sum_whole size [] entries below = refl
sum_whole size (f ∷ selection) [] below = refl
sum_whole size (false ∷ selection) (e ∷ entries) below = sum_whole size selection entries (λ i d within. below (suc i) d (omega arith))
sum_whole size (true ∷ selection) (None ∷ entries) below = sum_whole size selection entries (λ i d within. below (suc i) d (omega arith))
sum_whole size (true ∷ selection) (Some n ∷ entries) below =
    let numbers = values_at selection entries in
    sum_by-cons (λ x. x % size) n numbers
    ∙ ap₂ ◌+◌ (mod-eq_of_lt (below 0 (Some n) (omega arith))) (sum_whole size selection entries (λ i d within. below (suc i) d (omega arith)))
    ∙ sym (sum_by-cons (λ x. x) n numbers)

-- remainders of at most 2^32 numbers by at most 2^63 add up to less than 2^95
pub sum_small : (w : ℕ) (selection : List Bool) (entries : List (Option ℕ)) → 1 ≤ w → w ≤ 2 ^ 63 → length entries ≤ 2 ^ 32
    → sum_by (λ n. n % w) (values_at selection entries) < 2 ^ 95
sum_small w selection entries some small few =
    let numbers = values_at selection entries in
    let each : (n : ℕ) → n % w ≤ 2 ^ 63 - 1 = λ n. omega (arith, mod_below n w some) in
    let many = length-values_at selection entries in
    let product = mul-le (length numbers) (2 ^ 63 - 1) (2 ^ 32) (2 ^ 63 - 1) (omega arith) (omega arith) in
    omega (arith, sum_bound (λ n. n % w) (2 ^ 63 - 1) each numbers, product)

-- the numbers of at most 2^32 rows, each below two to the power of at most 63, add up to less than 2^95
pub sum_below : (w : ℕ) (selection : List Bool) (entries : List (Option ℕ)) → w ≤ 63 → length entries ≤ 2 ^ 32 → All (λ e. number_or_zero e < 2 ^ w) entries
    → sum (values_at selection entries) < 2 ^ 95
sum_below w selection entries narrow few below =
    let small : 2 ^ w ≤ 2 ^ 63 = pow-le-pow_right (omega arith) narrow in
    omega (arith, sum_whole (2 ^ w) selection entries below, sum_small (2 ^ w) selection entries (pow_pos w) small few)

-- slices hold the binary places of the numbers, where a null counts as 0
pub places_of : (not_null : List Bool) (slices : List BitList) → IsSliced not_null slices → IsEncoded has_place slices (map number_or_zero (entries_in not_null slices))
places_of not_null slices sliced = record {
  each = λ k within. slice_of not_null slices sliced k within ∙ mapped (has_place k) (entries_in not_null slices);
}
  where
    mapped : (f : ℕ → Bool) (entries : List (Option ℕ)) → map (λ e. f (number_or_zero e)) entries ≡ map f (map number_or_zero entries)
    mapped f [] = refl
    mapped f (e ∷ entries) = ap (λ bits. f (number_or_zero e) ∷ bits) (mapped f entries)
