-- The zone of a column, by the numbers at its rows that are not null.
use Rattle.std.proofs.Common.{◌≡◌, suc, ◌+◌, ◌<◌, ◌≤◌, ◌^◌, Bool, true, false, cond, ℤ, pos, ◌+ℤ◌, ◌≤ℤ◌, ◌<ℤ◌, List, [], ◌∷◌, Option, Some, None, length, map, refl, sym, ap, ◌∙◌, arith, inl, inr}
use Rattle.std.specs.Prelude.{All, Contains, count_by, int_le, int_lt, is_some, unwrap_or, ◌⊎◌}
use Rattle.std.specs.Cmp.{first_so, second_so}
use Rattle.std.specs.Int.{w64, cast_unsigned, int_max, int_min}
use Rattle.std.specs.Int.RustNames.{FitsSigned}
use Rattle.std.specs.List.{fold}
use Rattle.std.proofs.lemmas.Bool.Decides.{nat_tests}
use Rattle.std.proofs.lemmas.Int.{ints, fold-int_max_bounds, fold-int_max_reached, fold-int_min_bounds, fold-int_min_reached}
use Rattle.std.proofs.lemmas.List.Elements.{All-cons, All-contains, All-head, All-nil, All-tail}
use Rattle.std.proofs.lemmas.List.Sums.{sum_by-cons}
use Rattle.bsi_digits.specs.Orders.{values_at}
use Rattle.bsi_digits.specs.WholeNumbers.{IsSignedGreatestOf, IsSignedLeastOf}
use Rattle.bsi_schema.specs.Columns.{is_accepted_by, size_in, Entries, IsColumn, NamedColumn}
use Rattle.bsi_storage.specs.Heads.{greatest_of, least_of, numbers_of}

-- ---- the rows that are not null

-- have all numbers
pub all_numbers : (entries : Entries) → values_at (map is_some entries) entries ≡ numbers_of entries
all_numbers [] = refl
all_numbers (None ∷ entries) = all_numbers entries
all_numbers (Some x ∷ entries) = ap (λ xs. x ∷ xs) (all_numbers entries)

one_more : (b : Bool) (bs : List Bool) → count_by (λ x. x) (b ∷ bs) ≡ cond b 1 0 + count_by (λ x. x) bs
one_more b bs = sum_by-cons (λ x. cond x 1 0) b bs

-- and are as many
pub count_of_numbers : (entries : Entries) → count_by (λ b. b) (map is_some entries) ≡ length (numbers_of entries)
count_of_numbers [] = refl
count_of_numbers (None ∷ entries) =
    (let none : 0 + length (numbers_of entries) ≡ length (numbers_of entries) = omega arith in
    one_more false (map is_some entries) ∙ ap (λ n. 0 + n) (count_of_numbers entries) ∙ none)
count_of_numbers (Some x ∷ entries) =
    (let one : 1 + length (numbers_of entries) ≡ suc (length (numbers_of entries)) = omega arith in
    one_more true (map is_some entries) ∙ ap (λ n. 1 + n) (count_of_numbers entries) ∙ one)

-- ---- extremes

at_most : (x y : ℤ) → int_le x y ≡ true → x ≤ℤ y
at_most x y holds = grind (arith, ints, nat_tests, holds)

below : (x y : ℤ) → int_lt x y ≡ true → x <ℤ y
below x y holds = grind (arith, ints, nat_tests, holds)

same_number : (x y : ℤ) → x ≤ℤ y → y ≤ℤ x → x ≡ y
same_number x y below above = omega (arith, ints, below, above)

contains_first : (number : ℤ) (numbers : List ℤ) (r : ℤ) → (r ≡ number) ⊎ Contains numbers r → Contains (number ∷ numbers) r
contains_first number numbers r (inl is) = (0, omega arith, sym is)
contains_first number numbers r (inr there) = (suc there.0, omega (arith, there.1), there.2)

least_reached : (number : ℤ) (numbers : List ℤ) → Contains (number ∷ numbers) (least_of (number ∷ numbers))
least_reached number numbers = contains_first number numbers (fold int_min number numbers) (fold-int_min_reached number numbers (fold int_min number numbers) refl)

greatest_reached : (number : ℤ) (numbers : List ℤ) → Contains (number ∷ numbers) (greatest_of (number ∷ numbers))
greatest_reached number numbers = contains_first number numbers (fold int_max number numbers) (fold-int_max_reached number numbers (fold int_max number numbers) refl)

-- the least number, and 0 of none
pub least_is : (numbers : List ℤ) (answer : Option ℤ) → IsSignedLeastOf numbers answer → unwrap_or answer (pos 0) ≡ least_of numbers
least_is numbers None none = sym (ap least_of none)
least_is [] (Some m) is = absurd (omega (arith, is.member.1))
least_is (number ∷ numbers) (Some m) is =
    let r = fold int_min number numbers in
    let bounds = fold-int_min_bounds number numbers r refl in
    let low = All-contains (λ x. r ≤ℤ x) (number ∷ numbers) m (All-cons (λ x. r ≤ℤ x) number numbers bounds.0 bounds.1) is.member in
    let high = at_most m r (All-contains (λ x. int_le m x ≡ true) (number ∷ numbers) r is.none_below (least_reached number numbers)) in
    same_number m r high low

pub greatest_is : (numbers : List ℤ) (answer : Option ℤ) → IsSignedGreatestOf numbers answer → unwrap_or answer (pos 0) ≡ greatest_of numbers
greatest_is numbers None none = sym (ap greatest_of none)
greatest_is [] (Some m) is = absurd (omega (arith, is.member.1))
greatest_is (number ∷ numbers) (Some m) is =
    let r = fold int_max number numbers in
    let bounds = fold-int_max_bounds number numbers r refl in
    let high = All-contains (λ x. x ≤ℤ r) (number ∷ numbers) m (All-cons (λ x. x ≤ℤ r) number numbers bounds.0 bounds.1) is.member in
    let low = at_most r m (All-contains (λ x. int_le x m ≡ true) (number ∷ numbers) r is.none_above (greatest_reached number numbers)) in
    same_number m r high low

-- ---- numbers that a column accepts have 64 bits

number_fits : (column : NamedColumn) → IsColumn column → (x : ℤ) → is_accepted_by column (Some x) ≡ true → FitsSigned w64 x
number_fits column valid x accepted =
    let end = column.offset +ℤ pos (size_in column.form) in
    let low = at_most column.offset x (first_so (int_le column.offset x) (int_lt x end) accepted) in
    let high = below x end (second_so (int_le column.offset x) (int_lt x end) accepted) in
    let least = valid.low in
    let last = valid.below in
    search (arith, ints)

numbers_fit : (column : NamedColumn) → IsColumn column → (entries : Entries) → All (λ entry. is_accepted_by column entry ≡ true) entries → All (λ x. FitsSigned w64 x) (numbers_of entries)
numbers_fit column valid [] all = All-nil (λ x. FitsSigned w64 x)
numbers_fit column valid (None ∷ entries) all = numbers_fit column valid entries (All-tail (λ entry. is_accepted_by column entry ≡ true) None entries all)
numbers_fit column valid (Some x ∷ entries) all =
    All-cons (λ y. FitsSigned w64 y) x (numbers_of entries)
    (number_fits column valid x (All-head (λ entry. is_accepted_by column entry ≡ true) (Some x) entries all))
    (numbers_fit column valid entries (All-tail (λ entry. is_accepted_by column entry ≡ true) (Some x) entries all))

zero_small : cast_unsigned w64 (pos 0) < 2 ^ 64
zero_small = omega arith

cast_small : (x : ℤ) → FitsSigned w64 x → cast_unsigned w64 x < 2 ^ 64
cast_small x fits = search (arith, ints)

least_small : (numbers : List ℤ) → All (λ x. FitsSigned w64 x) numbers → cast_unsigned w64 (least_of numbers) < 2 ^ 64
least_small [] all = zero_small
least_small (number ∷ numbers) all =
    cast_small (least_of (number ∷ numbers)) (All-contains (λ x. FitsSigned w64 x) (number ∷ numbers) (least_of (number ∷ numbers)) all (least_reached number numbers))

greatest_small : (numbers : List ℤ) → All (λ x. FitsSigned w64 x) numbers → cast_unsigned w64 (greatest_of numbers) < 2 ^ 64
greatest_small [] all = zero_small
greatest_small (number ∷ numbers) all =
    cast_small (greatest_of (number ∷ numbers)) (All-contains (λ x. FitsSigned w64 x) (number ∷ numbers) (greatest_of (number ∷ numbers)) all (greatest_reached number numbers))

few_numbers : (entries : Entries) → length (numbers_of entries) ≤ length entries
few_numbers [] = omega arith
few_numbers (None ∷ entries) = omega (arith, few_numbers entries)
few_numbers (Some x ∷ entries) = omega (arith, few_numbers entries)

-- each word of the zone of a column is a number of 64 bits
pub zone_small : (column : NamedColumn) → IsColumn column → (entries : Entries) → All (λ entry. is_accepted_by column entry ≡ true) entries → length entries < 2 ^ 64
    → (length (numbers_of entries) < 2 ^ 64) × (cast_unsigned w64 (least_of (numbers_of entries)) < 2 ^ 64) × (cast_unsigned w64 (greatest_of (numbers_of entries)) < 2 ^ 64)
zone_small column valid entries all few =
    let fit = numbers_fit column valid entries all in
    (omega (arith, few_numbers entries, few), least_small (numbers_of entries) fit, greatest_small (numbers_of entries) fit)
