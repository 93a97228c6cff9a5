-- The sum of the numbers of a selection, a component at a time.
use Rattle.std.proofs.Common.{◌≡◌, ℕ, ◌+◌, ◌*◌, ◌/◌, ◌%◌, ◌<◌, Bool, List, Option, length, get_or, map, ap, ap₂, ◌∙◌, arith}
use Rattle.std.specs.Prelude.{sum, sum_by}
use Rattle.std.specs.List.{items_where_true}
use Rattle.std.proofs.Math.Nat.{zero-div, zero-mod}
use Rattle.bsi_digits.specs.Digits.{weight, digit_of, IsBaseList}
use Rattle.bsi_digits.proofs.CallerLemmas.{low_more}
use Rattle.bsi_digits.specs.Comparisons.{number_or_zero}
use Rattle.bsi_digits.specs.Orders.{values_at}
use Rattle.bsi_columns.proofs.Adding.{none_below_one, sum_selected, sum_parts}

-- at first no digit is added
pub sum_none : (bs : List ℕ) (numbers : List ℕ) → 0 ≡ sum_by (λ n. n % weight bs 0) numbers
sum_none bs numbers = none_below_one numbers

zero_digit_of : (bs : List ℕ) → IsBaseList bs → (i : ℕ) → i < length bs → digit_of bs 0 i ≡ 0
zero_digit_of bs valid i within =
    let high : 0 / weight bs i ≡ 0 = zero-div (weight bs i) in
    ap (λ q. q % get_or bs i 0) high ∙ zero-mod (get_or bs i 0)

-- one component more
pub sum_digits : (bs : List ℕ) → IsBaseList bs → (i : ℕ) → i < length bs → (selection : List Bool) (entries : List (Option ℕ)) (digits : List ℕ) (total digit_sum w : ℕ)
    → total ≡ sum_by (λ n. n % weight bs i) (values_at selection entries)
    → digits ≡ map (λ e. digit_of bs (number_or_zero e) i) entries → digit_sum ≡ sum (items_where_true selection digits) → w ≡ weight bs i
    → total + digit_sum * w ≡ sum_by (λ n. n % weight bs (i + 1)) (values_at selection entries)
sum_digits bs valid i within selection entries digits total digit_sum w total_is digits_is digit_sum_is w_is =
    let numbers = values_at selection entries in
    let zero_digit : digit_of bs 0 i ≡ 0 = zero_digit_of bs valid i within in
    let summed = digit_sum_is ∙ ap (λ ds. sum (items_where_true selection ds)) digits_is ∙ sum_selected (λ n. digit_of bs n i) zero_digit selection entries in
    let parts = sum_parts (λ n. n % weight bs (i + 1)) (λ n. digit_of bs n i) (λ n. n % weight bs i) (weight bs i) (λ n. low_more valid n i within) numbers in
    let product = ap₂ ◌*◌ summed w_is in
    omega (arith, total_is, product, parts)
