use Rattle.std.proofs.Common.{◌≡◌, ◌-◌, ◌<◌, ◌≤◌, ℕ, length, get_or, ap, sym, subst, ◌∙◌, arith, rules}
use Rattle.std.specs.Prelude.{nat_le, ◌==◌, ◌&&◌}
use Rattle.std.specs.Simd.Lanes.{zip2}
use Rattle.bsi_bits.proofs.Pairs.{zip2-map_right}
use Rattle.bsi_kernels.specs.Ranks.{IsRankedRows}
use Rattle.bsi_components.specs.Component.{count_where}
use Rattle.bsi_components.proofs.DigitCounts.{where_all, where_below_zero}
use Rattle.bsi_components.proofs.SelectedDigits.{ranked_rows}
use Rattle.bsi_components.proofs.encoding.Encoding.rows_of_rank.Goals as goal

-- no digit is below 0, and all are at most the greatest
pub digits-init : goal.digits-init
digits-init g c =
    let digits = g.Self.Encoding.digits c.args.self.now in
    let selection = c.args.selection.bits in
    let top = c.base.result - 1 in
    let each : (k : ℕ) → k < length digits → get_or digits k 0 ≤ top = λ k within. let below = c.base.ensures.below k in omega (arith, below, c.base.ensures.base) in
    let all = where_all top selection digits (sym c.requires.same) each in
    record {
      order = omega arith;
      within = omega (arith, c.base.ensures.base, c.base.ensures.within);
      below_is = sym (where_below_zero selection digits);
      at_least = omega arith;
      under = omega (arith, all, c.requires.there);
      even = c.requires.same ∙ sym (ap length c.in_ok-scratch.ensures);
    }

-- the rows of the one digit that is left
pub returns-clause-ranked : goal.returns-clause-ranked
returns-clause-ranked g c =
    let digits = g.Self.Encoding.digits c.args.self.now in
    let selection = c.args.selection.bits in
    let low = c.digits.low in
    let rows = c.and_with.new.self.bits in
    let rank : ℕ = c.args.rank - c.digits.below in
    let one : c.digits.high ≡ low = omega (arith, c.digits.invariant.order, c.digits-test.false) in
    let rows_are = c.and_with.ensures.bits ∙ ap (zip2 ◌&&◌ selection) c.eq_into.ensures.bits ∙ zip2-map_right ◌&&◌ (λ v. v == low) selection digits in
    let upto = ap (λ h. count_where (λ v. nat_le v h) selection digits) one in
    let ranked = ranked_rows c.args.rank low rank selection digits rows
    (omega (arith, c.digits.invariant.below_is, c.digits.invariant.at_least)) (omega (arith, c.digits.invariant.under, upto)) rows_are in
    subst (λ (n : ℕ). IsRankedRows c.args.rank selection digits n rank rows) (sym c.from.ensures) ranked

pub returns-in_err-scratch-clause-digit : goal.returns-in_err-scratch-clause-digit
returns-in_err-scratch-clause-digit g c = search rules

pub returns-in_err-scratch-clause-ranked : goal.returns-in_err-scratch-clause-ranked
returns-in_err-scratch-clause-ranked g c = search rules

pub overflow_sub-high : goal.overflow_sub-high
overflow_sub-high g c = search rules

pub overflow_sub-middle : goal.overflow_sub-middle
overflow_sub-middle g c = search rules

pub overflow_add-middle : goal.overflow_add-middle
overflow_add-middle g c = search rules

pub digits-smaller-then-rank-upto : goal.digits-smaller-then-rank-upto
digits-smaller-then-rank-upto g c = search rules

pub digits-preserved-then-rank-upto : goal.digits-preserved-then-rank-upto
digits-preserved-then-rank-upto g c = search rules

pub overflow_add-low : goal.overflow_add-low
overflow_add-low g c = search rules

pub digits-smaller : goal.digits-smaller
digits-smaller g c = search rules

pub digits-preserved : goal.digits-preserved
digits-preserved g c = search rules

pub overflow_sub-result : goal.overflow_sub-result
overflow_sub-result g c = search rules

pub returns-clause-digit : goal.returns-clause-digit
returns-clause-digit g c = search rules
