-- A number that is read digit by digit, from the left.
use Rattle.std.proofs.Common.{◌≡◌, ℕ, ◌+◌, ◌-◌, ◌*◌, ◌^◌, ◌<◌, ◌≤◌, true, false, ◌&&◌, List, length, get_or, take, Some, None, ◌∙◌, ap, arith, lt-ltb, le-leb, le-ltb, refl, nat_lt}
use Rattle.std.proofs.Math.Bool.{and-false}
use Rattle.std.proofs.Math.Nat.{pow-le-pow_right}
use Rattle.std.proofs.lemmas.Nat.{pow-add}
use Rattle.std.proofs.lemmas.Bool.Decides.{nat_tests}
use Rattle.std.proofs.lemmas.Int.Digits.{digits_value_more}
use Rattle.std.proofs.lemmas.Str.Parse.{digits_value-take-le}
use Rattle.std.proofs.lemmas.List.Folds.{list_all_more}
use Rattle.std.specs.Char.{is_ascii_digit, digit_value}
use Rattle.std.specs.List.{list_all}
use Rattle.std.specs.Str.Parse.{digits_value}
use Rattle.bsi_syntax.specs.Numbers.{spelled_number}

-- what a digit is worth
digit_is : (c : ℕ) → 48 ≤ c → c ≤ 57 → digit_value c ≡ c - 48
digit_is c low high = let a : nat_lt c 48 ≡ false = le-ltb _ _ low in let b : nat_lt c 58 ≡ true = lt-ltb _ _ (omega arith) in rw (a, b) refl

-- a digit passes the test
digit_passes : (c : ℕ) → 48 ≤ c → c ≤ 57 → is_ascii_digit c ≡ true
digit_passes c low high = grind (arith, nat_tests)

-- the value after one more digit
pub value_more : (text : List ℕ) (i : ℕ) → i < length text → 48 ≤ get_or text i 0 → get_or text i 0 ≤ 57
    → digits_value 10 (take (i + 1) text) ≡ digits_value 10 (take i text) * 10 + (get_or text i 0 - 48)
value_more text i within low high = digits_value_more 10 text i within ∙ ap (λ d. digits_value 10 (take i text) * 10 + d) (digit_is _ low high)

-- one more digit is still all digits
pub digits_more : (text : List ℕ) (i : ℕ) → i < length text → 48 ≤ get_or text i 0 → get_or text i 0 ≤ 57
    → list_all is_ascii_digit (take i text) ≡ true → list_all is_ascii_digit (take (i + 1) text) ≡ true
digits_more text i within low high before =
    list_all_more is_ascii_digit text i 0 within ∙ ap (λ b. b && is_ascii_digit (get_or text i 0)) before ∙ digit_passes _ low high

-- a text whose first digits are too large is no number
pub too_large : (text : List ℕ) (i : ℕ) → 2 ^ 64 ≤ digits_value 10 (take i text) → None ≡ spelled_number text
too_large text i large =
    let whole : 2 ^ 64 ≤ digits_value 10 text = omega (arith, digits_value-take-le 10 text i (omega arith)) in
    let test : nat_lt (digits_value 10 text) (2 ^ 64) ≡ false = le-ltb _ _ whole in
    rw (test, and-false) refl

-- few digits of a small value are a number
pub is_some : (text : List ℕ) → 0 < length text → length text ≤ 20 → list_all is_ascii_digit text ≡ true
    → digits_value 10 text < 2 ^ 64 → Some (digits_value 10 text) ≡ spelled_number text
is_some text some few digits small =
    rw (lt-ltb _ _ some, le-leb _ _ few, digits, lt-ltb _ _ small) refl

-- one more digit after i of them
pub ten_more : (i : ℕ) → 10 ^ (i + 1) ≡ 10 ^ i * 10
ten_more i = pow-add 10 i 1

-- nineteen digits write less than a `u64` holds
pub ten_within : (i : ℕ) → i < 19 → 10 ^ i * 10 ≤ 10 ^ 19
ten_within i few =
    let behind : i + 1 ≤ 19 = omega arith in
    let most : 10 ^ (i + 1) ≤ 10 ^ 19 = pow-le-pow_right {n = 10} (omega arith) {i = i + 1} {j = 19} behind in
    omega (arith, most, ten_more i)
