-- The search for the digit of a rank.
use Rattle.std.proofs.Common.{◌≡◌, ℕ, ◌+◌, ◌<◌, ◌≤◌, Bool, List, length, map, get_or, ap, sym, ◌∙◌, arith}
use Rattle.std.specs.Prelude.{count_by, nat_le, nat_lt, ◌&&◌}
use Rattle.std.specs.Simd.Lanes.{zip2}
use Rattle.std.proofs.lemmas.List.Sums.{count_by-le-length}
use Rattle.std.proofs.lemmas.Bool.Decides.{nat_tests}
use Rattle.bsi_bits.proofs.Pairs.{zip2-map_right}
use Rattle.bsi_components.specs.Component.{count_where}
use Rattle.bsi_components.specs.Ranks.{IsBetween}
use Rattle.bsi_components.proofs.DigitCounts.{where_all, where_below_zero, where_same}

next : (d v : ℕ) → nat_le v d ≡ nat_lt v (d + 1)
next d v = grind (arith, nat_tests)

module _ (base k : ℕ) (selection : List Bool) (digits : List ℕ) where
  -- no digit is below 0, and all are at most the greatest
  pub between_all : (top : ℕ) → top + 1 ≡ base → length digits ≡ length selection → ((i : ℕ) → get_or digits i 0 ≤ top) → k < count_by (λ b. b) selection → IsBetween base k selection digits 0 top 0
  between_all top last same most there =
      let all = where_all top selection digits (sym same) (λ i within. most i) in
      record {
        order = omega arith;
        within = omega arith;
        below_is = sym (where_below_zero selection digits);
        at_least = omega arith;
        under = omega (arith, all, there);
      }

  -- the rows that the bitmap of d has are those of a digit of at most d
  pub count_upto : (d upto : ℕ) (bits : List Bool) → upto ≡ count_by (λ b. b) (zip2 ◌&&◌ selection bits) → bits ≡ map (λ v. nat_le v d) digits → upto ≡ count_where (λ v. nat_le v d) selection digits
  count_upto d upto bits count_is bits_are =
      count_is ∙ ap (λ bs. count_by (λ b. b) (zip2 ◌&&◌ selection bs)) bits_are ∙ ap (count_by (λ b. b)) (zip2-map_right ◌&&◌ (λ v. nat_le v d) selection digits)

  -- a rank is at most the number of rows
  pub few_ranks : k < count_by (λ b. b) selection → k ≤ length selection
  few_ranks there = omega (arith, there, count_by-le-length (λ b. b) selection)

  module _ (low high below d upto : ℕ) (from : low ≤ d) (to : d < high) (count_is : upto ≡ count_where (λ v. nat_le v d) selection digits) (so_far : IsBetween base k selection digits low high below) where
    -- the digit is at most d
    pub between_low : k < upto → IsBetween base k selection digits low d below
    between_low within = record {
      order = from;
      within = omega (arith, so_far.within, to);
      below_is = so_far.below_is;
      at_least = so_far.at_least;
      under = omega (arith, within, count_is);
    }

    -- or above it
    pub between_high : upto ≤ k → IsBetween base k selection digits (d + 1) high upto
    between_high past = record {
      order = omega (arith, to);
      within = so_far.within;
      below_is = count_is ∙ where_same (λ v. nat_le v d) (λ v. nat_lt v (d + 1)) (λ v. next d v) selection digits;
      at_least = past;
      under = so_far.under;
    }
