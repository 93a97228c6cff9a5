-- The rows of a selection that have the digit of a rank.
use Rattle.std.proofs.Common.{◌≡◌, ℕ, suc, ◌+◌, ◌<◌, Bool, true, false, cond, List, [], ◌∷◌, get_or, inl, inr, ap, arith}
use Rattle.std.specs.Prelude.{count_by, nat_eq, nat_lt, nat_le, ◌&&◌}
use Rattle.std.specs.Simd.Lanes.{zip2}
use Rattle.std.proofs.lemmas.Bool.{cases_Bool}
use Rattle.std.proofs.lemmas.Bool.Decides.{nat_tests}
use Rattle.bsi_kernels.specs.Ranks.{IsRankedRows}
use Rattle.bsi_components.specs.Component.{count_where}
use Rattle.bsi_components.proofs.DigitCounts.{count_cons, where_at_most}

-- from the search for the digit
pub ranked_rows : (k d rank : ℕ) (selection : List Bool) (digits : List ℕ) (rows : List Bool)
    → k ≡ count_where (λ v. nat_lt v d) selection digits + rank → k < count_where (λ v. nat_le v d) selection digits
    → rows ≡ zip2 (λ f v. f && nat_eq v d) selection digits → IsRankedRows k selection digits d rank rows
ranked_rows k d rank selection digits rows rank_is there rows_are = record {
  rows_are = rows_are;
  rank_is = rank_is;
  there = omega (arith, rank_is, there, where_at_most d selection digits, ap (count_by (λ b. b)) rows_are);
}

-- a digit that a row has is below the base
pub digit_below : (d base : ℕ) (selection : List Bool) (digits : List ℕ) → ((k : ℕ) → get_or digits k 0 < base) → 0 < count_where (λ v. nat_eq v d) selection digits → d < base
digit_below d base [] digits below some = absurd (omega arith)
digit_below d base (f ∷ selection) [] below some = absurd (omega arith)
digit_below d base (f ∷ selection) (v ∷ digits) below some = elim (cases_Bool (f && nat_eq v d)) [
  | inl passes ↦ let first : v < base = below 0 in let same : v ≡ d = equal f passes in omega (arith, first, same)
  | inr fails ↦
      let later : 0 < count_where (λ v. nat_eq v d) selection digits =
      omega (arith, some, count_cons (λ b. b) (f && nat_eq v d) (zip2 (λ f v. f && nat_eq v d) selection digits), ap {B = ℕ} (λ b. cond b 1 0) fails) in
      digit_below d base selection digits (λ k. below (suc k)) later
]
  where
    equal : (g : Bool) → (g && nat_eq v d) ≡ true → v ≡ d
    equal true passes = grind (arith, nat_tests, passes)
    equal false passes = grind (arith, passes)
