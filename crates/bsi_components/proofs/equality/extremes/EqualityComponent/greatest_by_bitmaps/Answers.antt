use Rattle.std.proofs.Common.{◌-◌, arith}
use Rattle.bsi_components.proofs.WordDigits.{row_with}
use Rattle.bsi_components.proofs.equality.extremes.EqualityComponent.greatest_by_bitmaps.Goals as goal

pub returns-then-has_row_of : goal.returns-then-has_row_of
returns-then-has_row_of c = record {
  within = omega (arith, c.digits-test.true);
  member = row_with _ _ _ (c.digits.digit - 1) (c.has_row_of.ensures.some c.if-has_row_of.true);
  first = λ p below set. omega (arith, c.digits.invariant p below set);
}
