use Rattle.std.proofs.Common.{◌≡◌, ◌+◌, ◌^◌, ◌<◌, length, take, take_all, arith, ◌∙◌, ap, true}
use Rattle.std.specs.Char.{is_ascii_digit}
use Rattle.std.specs.List.{list_all}
use Rattle.std.specs.Str.Parse.{digits_value}
use Rattle.bsi_syntax.proofs.Digits.{value_more, digits_more, too_large, is_some}
use Rattle.bsi_syntax.proofs.numbers.read_long.Goals as goal

-- ten times the value so far is too large, so the value with one more digit is
pub returns-in_err-checked_mul : goal.returns-in_err-checked_mul
returns-in_err-checked_mul c =
    let digit = c.if-not-is_ascii_digit.ensures.cases in
    let value = c.digits.invariant.value_is in
    let more = value_more c.args.text.now c.digits.byte-index (omega arith) digit.0 digit.1 in
    let large = c.in_err-checked_mul.ensures in
    c.from_residual.ensures ∙ too_large c.args.text.now (c.digits.byte-index + 1) (omega (arith, more, value, large))

-- the value with one more digit is too large
pub returns-in_err-value : goal.returns-in_err-value
returns-in_err-value c =
    let digit = c.if-not-is_ascii_digit.ensures.cases in
    let value = c.digits.invariant.value_is in
    let more = value_more c.args.text.now c.digits.byte-index (omega arith) digit.0 digit.1 in
    let large = c.in_err-value.ensures in
    let tens = c.in_ok-checked_mul.ensures.1 in
    c.from_residual-in_err-value.ensures
    ∙ too_large c.args.text.now (c.digits.byte-index + 1) (omega (arith, more, value, large, tens, c.from-digit.ensures))

-- the value is small enough for one more digit, whichever it is
pub digits-preserved-then-value-le-MAX_BEFORE_DIGIT : goal.digits-preserved-then-value-le-MAX_BEFORE_DIGIT
digits-preserved-then-value-le-MAX_BEFORE_DIGIT c =
    let digit = c.if-not-is_ascii_digit.ensures.cases in
    let value = c.digits.invariant.value_is in
    let more = value_more c.args.text.now c.digits.byte-index (omega arith) digit.0 digit.1 in
    record {
      value_is = omega (arith, more, value, c.from-digit.ensures);
      small = omega (arith, digit.0, digit.1, c.from-digit.ensures);
      all_digits = digits_more c.args.text.now c.digits.byte-index (omega arith) digit.0 digit.1 c.digits.invariant.all_digits;
    }

pub digits-preserved : goal.digits-preserved
digits-preserved c =
    let digit = c.if-not-is_ascii_digit.ensures.cases in
    let value = c.digits.invariant.value_is in
    let more = value_more c.args.text.now c.digits.byte-index (omega arith) digit.0 digit.1 in
    let tens = c.in_ok-checked_mul.ensures.1 in
    let next = c.in_ok-value.ensures.1 in
    record {
      value_is = omega (arith, more, value, tens, next, c.from-digit.ensures);
      small = omega (arith, next, c.in_ok-value.ensures.0);
      all_digits = digits_more c.args.text.now c.digits.byte-index (omega arith) digit.0 digit.1 c.digits.invariant.all_digits;
    }

-- all bytes were read
pub returns : goal.returns
returns c =
    let all : take c.digits.byte-index c.args.text.now ≡ c.args.text.now = take_all _ _ (omega arith) in
    let value : c.digits.value ≡ digits_value 10 c.args.text.now = c.digits.invariant.value_is ∙ ap (digits_value 10) all in
    let digits : list_all is_ascii_digit c.args.text.now ≡ true = rw all at c.digits.invariant.all_digits in
    let some : 0 < length c.args.text.now = c.requires.0 in
    let small : digits_value 10 c.args.text.now < 2 ^ 64 = omega (arith, value, c.digits.invariant.small) in
    rw value (is_some c.args.text.now some (omega arith) digits small)
