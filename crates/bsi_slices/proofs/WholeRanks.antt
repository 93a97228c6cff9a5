-- The number of a rank, from the rows of a selection that have it.
use Rattle.std.proofs.Common.{◌≡◌, ℕ, suc, ◌+◌, ◌*◌, ◌/◌, ◌%◌, ◌<◌, Bool, List, [], ◌∷◌, Option, All, length, map, refl, ap, ap₂, sym, subst, ◌∙◌, arith, mod-eq_of_lt}
use Rattle.std.specs.Prelude.{is_some, nat_eq, nat_lt, ◌&&◌}
use Rattle.std.specs.Simd.Lanes.{zip2}
use Rattle.std.proofs.Math.Nat.{div-eq_of_lt}
use Rattle.bsi_kernels.specs.Ranks.{IsRankedRows}
use Rattle.bsi_digits.specs.Comparisons.{number_or_zero}
use Rattle.bsi_digits.specs.Orders.{values_at}
use Rattle.bsi_digits.specs.Totals.{IsRanked}
use Rattle.bsi_slices.proofs.Ranking.{IsNarrowed, count_where, narrowed_start, narrowed_step, narrowed_extreme}

-- a number below the size is its own digit
whole_digits : (size : ℕ) (entries : List (Option ℕ)) → All (λ e. number_or_zero e < size) entries → map number_or_zero entries ≡ map (λ e. number_or_zero e / 1 % size) entries
whole_digits size [] below = refl
whole_digits size (e ∷ entries) below =
    let n : ℕ = number_or_zero e in
    let first : n < size = below 0 e (omega arith) in
    let whole : n ≡ n / 1 = omega arith in
    ap₂ ◌∷◌ (sym (mod-eq_of_lt first) ∙ ap (λ q. q % size) whole) (whole_digits size entries (λ i d within. below (suc i) d (omega arith)))

pub number_ranked : (size k number rank : ℕ) (selection chosen : List Bool) (entries : List (Option ℕ)) (rows : List Bool) → All (λ e. number_or_zero e < size) entries → number < size
    → chosen ≡ zip2 ◌&&◌ selection (map is_some entries) → k < length (values_at selection entries)
    → IsRankedRows k chosen (map number_or_zero entries) number rank rows → IsRanked (values_at selection entries) k number
number_ranked size k number rank selection chosen entries rows below small chosen_is there ranked =
    let digits = whole_digits size entries below in
    let one : size ≡ 1 * size = omega arith in
    let start = narrowed_start selection entries k size chosen (λ i d within. div-eq_of_lt (below i d within)) chosen_is there in
    let state : IsNarrowed (1 * size) selection entries k 0 k chosen = subst (λ (w : ℕ). IsNarrowed w selection entries k 0 k chosen) one start in
    let step = narrowed_step 1 size selection entries k 0 k chosen (omega arith) state number rank rows small
    (ranked.rows_are ∙ ap (zip2 (λ f v. f && nat_eq v number) chosen) digits)
    (ranked.rank_is ∙ ap (λ ds. count_where (λ v. nat_lt v number) chosen ds + rank) digits)
    ranked.there in
    let same : 0 * size + number ≡ number = omega arith in
    subst (λ (m : ℕ). IsRanked (values_at selection entries) k m) same (narrowed_extreme selection entries k (0 * size + number) rank rows step)
