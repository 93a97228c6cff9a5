use Rattle.std.proofs.Common.{arith}
use Rattle.bsi_syntax.proofs.Digits.{digits_more, ten_more, ten_within, value_more}
use Rattle.bsi_syntax.proofs.numbers.read_short.Goals as goal

pub overflow_mul-value : goal.overflow_mul-value
overflow_mul-value c =
    let few = ten_within c.digits.byte-index (omega (arith, c.requires.1, c.digits-test.true)) in
    omega (arith, few, c.digits.invariant.small)

pub overflow_add-value : goal.overflow_add-value
overflow_add-value c =
    let digit = c.if-not-is_ascii_digit.ensures.cases in
    let few = ten_within c.digits.byte-index (omega (arith, c.requires.1, c.digits-test.true)) in
    omega (arith, few, c.digits.invariant.small, digit.1, c.from.ensures)

-- the value with one more digit
pub digits-preserved : goal.digits-preserved
digits-preserved c =
    let digit = c.if-not-is_ascii_digit.ensures.cases in
    let value = c.digits.invariant.value_is in
    let more = value_more c.args.text.now c.digits.byte-index (omega arith) digit.0 digit.1 in
    record {
      value_is = omega (arith, more, value, c.from.ensures);
      all_digits = digits_more c.args.text.now c.digits.byte-index (omega arith) digit.0 digit.1 c.digits.invariant.all_digits;
      small = omega (arith, digit.0, digit.1, c.from.ensures, c.digits.invariant.small, ten_more c.digits.byte-index);
    }
