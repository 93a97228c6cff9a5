use Rattle.std.proofs.Common.{arith}
use Rattle.bsi_components.proofs.WordDigits.{row_with}
use Rattle.bsi_components.proofs.encoding.Encoding.least_in_span.Goals as goal

pub returns-then-has_digit : goal.returns-then-has_digit
returns-then-has_digit g c = λ on. record {
  within = omega (arith, c.digits-test.true);
  member = row_with _ _ _ c.digits.digit (c.has_digit.ensures.some on c.if-has_digit.true);
  first = c.digits.invariant on;
}
