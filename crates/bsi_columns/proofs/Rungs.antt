-- One component on the way to the number of a rank.
use Rattle.std.proofs.Common.{◌≡◌, ℕ, ◌+◌, ◌*◌, ◌<◌, ◌≤◌, Bool, List, Option, All, length, get_or, map, ap, subst, ◌∙◌, arith}
use Rattle.std.specs.Prelude.{count_by, is_some, nat_eq, nat_lt, ◌&&◌}
use Rattle.std.specs.Simd.Lanes.{zip2}
use Rattle.std.proofs.lemmas.Nat.{mul-le}
use Rattle.bsi_digits.specs.Digits.{weight, product, digit_of, IsBaseList}
use Rattle.bsi_digits.proofs.CallerLemmas.{high_all, weight_all, weight_more, weight_pos}
use Rattle.bsi_components.specs.Component.{count_where}
use Rattle.bsi_digits.specs.Comparisons.{number_or_zero}
use Rattle.bsi_digits.specs.Orders.{values_at}
use Rattle.bsi_columns.proofs.Ranking.{IsNarrowed, narrowed_start, narrowed_step, next_small}

-- the number fits where the size does
pub fits_size : (number w s : ℕ) → 1 ≤ w → number * w + w ≤ s → number < s
fits_size number w s some small = omega (arith, mul-le number 1 number w (omega arith) some)

-- the rows that are left among those of a selection, above component i of a column under these bases
pub record IsRung (bs : List ℕ) (selection : List Bool) (entries : List (Option ℕ)) (k i number rank : ℕ) (chosen : List Bool) : Type 0 where
  pub within : i ≤ length bs
  pub narrowed : IsNarrowed (weight bs i) selection entries k number rank chosen
  pub small : number * weight bs i + weight bs i ≤ product bs

module _ (bs : List ℕ) (valid : IsBaseList bs) (selection : List Bool) (entries : List (Option ℕ)) (k : ℕ) where
  pub rung_start : (chosen : List Bool) → All (λ e. number_or_zero e < product bs) entries → chosen ≡ zip2 ◌&&◌ selection (map is_some entries)
      → k < length (values_at selection entries) → IsRung bs selection entries k (length bs) 0 k chosen
  rung_start chosen below chosen_is there = record {
    within = omega arith;
    narrowed = narrowed_start selection entries k (weight bs (length bs)) chosen (λ i d within. high_all bs (number_or_zero (get_or entries i d)) (below i d within)) chosen_is there;
    small = omega (arith, weight_all bs);
  }

  module _ (i : ℕ) (within : i < length bs) where
    pub rung_step : (number rank d rank' : ℕ) (chosen chosen' : List Bool) (digits : List ℕ) → IsRung bs selection entries k (i + 1) number rank chosen
        → digits ≡ map (λ e. digit_of bs (number_or_zero e) i) entries → d < get_or bs i 0
        → chosen' ≡ zip2 (λ f v. f && nat_eq v d) chosen digits → rank ≡ count_where (λ v. nat_lt v d) chosen digits + rank' → rank' < count_by (λ b. b) chosen'
        → IsRung bs selection entries k i (number * get_or bs i 0 + d) rank' chosen'
    rung_step number rank d rank' chosen chosen' digits rung is below chosen_is rank_is there =
        let base = get_or bs i 0 in
        let more = weight_more bs i within in
        let AtWeight : ℕ → Type 0 = λ w. IsNarrowed w selection entries k number rank chosen in
        let state = subst AtWeight more rung.narrowed in
        record {
          within = omega arith;
          narrowed = narrowed_step (weight bs i) base selection entries k number rank chosen (omega (arith, weight_pos valid i)) state d rank' chosen' below
              (chosen_is ∙ ap (zip2 (λ f v. f && nat_eq v d) chosen) is) (rank_is ∙ ap (λ ds. count_where (λ v. nat_lt v d) chosen ds + rank') is) there;
          small = next_small number (weight bs i) base d (product bs) below (
              let Small : ℕ → Type 0 = λ w. number * w + w ≤ product bs in subst Small more rung.small);
        }
