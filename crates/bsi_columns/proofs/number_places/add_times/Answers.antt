use Rattle.std.proofs.Common.{◌≡◌, ◌+◌, ◌*◌, ◌%◌, ◌^◌, true, false, subst, ap, sym, ◌∙◌, arith}
use Rattle.std.proofs.Math.Nat.{mod-eq_of_lt}
use Rattle.bsi_columns.specs.NumberPlaces.{IsNumberAt}
use Rattle.bsi_columns.proofs.PlaceSums.{place_none, place_one, times_more}
use Rattle.bsi_columns.proofs.number_places.add_times.Goals.{then-times-k-eq1, else-times-k-eq1}
use Rattle.bsi_columns.proofs.number_places.add_times.Goals as goal

pub places-preserved : goal.places-preserved
places-preserved c =
    let k = c.places.k in
    let times = c.args.times in
    record {
      long = c.if-times-k-eq1.auto.sums ∙ c.places.invariant.long;
      sums = λ p x y near first second. elim c.if-times-k-eq1.branch [
        | then-times-k-eq1 w ↦
            let total : y + x * (times % 2 ^ k) + x * 2 ^ k ≡ y + x * (times % 2 ^ (k + 1)) =
            omega (arith, times_more x times k true (place_one times k w.if-times-k-eq1.true)) in
            subst (λ s. IsNumberAt s p (y + x * (times % 2 ^ (k + 1)))) (sym w.sums-is)
            (subst (IsNumberAt w.add_raised.new.sums p) total
            (w.add_raised.ensures.sums p x (y + x * (times % 2 ^ k)) near first (c.places.invariant.sums p x y near first second)))
        | else-times-k-eq1 w ↦
            let total : y + x * (times % 2 ^ k) ≡ y + x * (times % 2 ^ (k + 1)) =
            omega (arith, times_more x times k false (place_none times k w.if-times-k-eq1.false)) in
            subst (λ s. IsNumberAt s p (y + x * (times % 2 ^ (k + 1)))) (sym w.sums-is)
            (subst (IsNumberAt c.places.sums p) total (c.places.invariant.sums p x y near first second))
      ];
    }

-- each place of the factor is taken in
pub returns-clause-sums : goal.returns-clause-sums
returns-clause-sums c = λ p x y near first second.
    let all : c.places.k ≡ 32 = omega (arith, c.places-test.false, c.places.auto.k-end) in
    let whole : c.args.times % 2 ^ c.places.k ≡ c.args.times = ap (λ k. c.args.times % 2 ^ k) all ∙ mod-eq_of_lt c.ranges.times.fits in
    subst (λ t. IsNumberAt c.places.sums p (y + x * t)) whole (c.places.invariant.sums p x y near first second)
