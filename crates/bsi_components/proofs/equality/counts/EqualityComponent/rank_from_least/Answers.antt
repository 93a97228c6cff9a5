use Rattle.std.proofs.Common.{◌≡◌, ℕ, ◌+◌, ◌-◌, ◌≤◌, ◌<◌, length, get_or, sym, subst, arith}
use Rattle.std.specs.Prelude.{nat_lt}
use Rattle.bsi_components.specs.Component.{count_where}
use Rattle.bsi_components.proofs.DigitCounts.{where_all, where_at_most, where_below_next, where_below_zero}
use Rattle.bsi_components.proofs.equality.counts.EqualityComponent.rank_from_least.Goals as goal

-- no digit is below 0
pub digits-init : goal.digits-init
digits-init c = let none = where_below_zero c.args.selection.now.bits c.args.self.now.digits in omega (arith, none)

-- more rows than the rank have at most this digit
pub returns-then-left-rows-clause-ranked : goal.returns-then-left-rows-clause-ranked
returns-then-left-rows-clause-ranked c =
    let parts = where_at_most c.digits.digit c.args.selection.now.bits c.args.self.now.digits in
    record {
      rank_is = c.digits.invariant;
      there = omega (arith, parts, c.digits.invariant, c.count_eq-rows.ensures, c.if-left-rows.true);
    }

-- the rows of this digit are passed over
pub digits-preserved : goal.digits-preserved
digits-preserved c =
    let parts = where_at_most c.digits.digit c.args.selection.now.bits c.args.self.now.digits in
    let next = where_below_next c.digits.digit c.args.selection.now.bits c.args.self.now.digits in
    omega (arith, parts, next, c.digits.invariant, c.count_eq-rows.ensures, c.if-left-rows.false)

-- all rows have at most the greatest digit
pub returns-clause-ranked : goal.returns-clause-ranked
returns-clause-ranked c =
    let digits = c.args.self.now.digits in
    let top = c.own_base-top.result - 1 in
    let each : (k : ℕ) → k < length digits → get_or digits k 0 ≤ top = λ k within. let below = c.own_base-top.ensures.below k in omega arith in
    let all = where_all top c.args.selection.now.bits digits (sym c.requires.same) each in
    let passed : c.digits.digit ≡ top = omega arith in
    let Left : ℕ → Type 0 = λ d. c.args.rank ≡ count_where (λ v. nat_lt v d) c.args.selection.now.bits digits + c.digits.left in
    record {
      rank_is = subst Left passed c.digits.invariant;
      there = omega (arith, all, c.requires.there);
    }
