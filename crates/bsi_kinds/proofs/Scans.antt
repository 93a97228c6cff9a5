-- What the parts of a text come to that is scanned.
use Rattle.std.proofs.Common.{◌≡◌, ℕ, ◌+◌, ◌-◌, ◌*◌, ◌/◌, ◌%◌, ◌^◌, ◌<◌, ◌≤◌, inl, inr, min, Bool, true, false, ◌&&◌, ◌==◌, List, [], ◌∷◌, ◌++◌, length, Option, Some, None, option_map, if◌then◌else◌, ◌∙◌, ap, ap₂, arith, sym, refl, nat_lt, nat_le, lt-ltb, length-append}
use Rattle.std.proofs.Math.Nat.{mul-le-mul_right, pow-suc, zero-mul}
use Rattle.std.proofs.lemmas.Bool.{cases_lt, and_parts, and_from, eqb-false, leb-true, ne_eqb}
use Rattle.std.proofs.lemmas.Bool.Decides.{nat_tests}
use Rattle.std.proofs.lemmas.List.Folds.{list_all-append}
use Rattle.std.specs.Char.{is_ascii_digit, digit_value}
use Rattle.std.specs.List.{list_all}
use Rattle.std.specs.Str.Parse.{digits_value_after, digits_value}
use Rattle.bsi_kinds.specs.Decimals.{most_scanned, scanned, Digits}
use Rattle.bsi_kinds.proofs.Scanning.{digit_is, value_after-append}
use Rattle.bsi_kinds.proofs.Scaling.{left_over, nothing_left, scaled_down, scaled_up, ten_some, times_capped, value_after_capped, value_after_is}

-- a digit lies between 0 and 9
pub digit_range : (c : ℕ) → is_ascii_digit c ≡ true → (48 ≤ c) × (c ≤ 57)
digit_range c is = let parts = and_parts (nat_le 48 c) (nat_le c 57) is in (leb-true 48 c parts.0, leb-true c 57 parts.1)

zero_times : (p v : ℕ) → (0 * 10 + 0) * p + v ≡ v
zero_times p v = omega arith

below_ten : (x p v : ℕ) → x ≤ 9 → v < p → (0 * 10 + x) * p + v < p * 10
below_ten x p v few low = let most : x * p ≤ 9 * p = mul-le-mul_right p few in omega (arith, most)

zero_sum : (x p v : ℕ) → 0 < p → ((x == 0) && (v == 0)) ≡ ((0 * 10 + x) * p + v == 0)
zero_sum x p v some = elim (cases_lt 0 x) [
  | inl more ↦ (
      let first : (x == 0) ≡ false = ne_eqb x 0 (λ e. omega arith) in
      let large : 1 * p ≤ x * p = mul-le-mul_right p more in
      let second : ((0 * 10 + x) * p + v == 0) ≡ false = ne_eqb ((0 * 10 + x) * p + v) 0 (λ e. omega (arith, large)) in
      ap (λ b. b && (v == 0)) first ∙ sym second)
  | inr none ↦ (
      let e : x ≡ 0 = omega arith in
      ap (λ k. (k == 0) && (v == 0)) e ∙ ap (λ n. n == 0) (sym (ap (λ k. (0 * 10 + k) * p + v) e ∙ zero_times p v)))
]

pub times_zero : (v p : ℕ) → 0 < p → (v == 0) ≡ (v * p == 0)
times_zero v p some = elim (cases_lt 0 v) [
  | inl more ↦ (
      let large : 1 * p ≤ v * p = mul-le-mul_right p more in
      ne_eqb v 0 (λ e. omega arith) ∙ sym (ne_eqb (v * p) 0 (λ e. omega (arith, large))))
  | inr none ↦ (let e : v ≡ 0 = omega arith in ap (λ k. k == 0) e ∙ ap (λ n. n == 0) (sym (ap (λ k. k * p) e ∙ zero-mul p)))
]

-- digits write a number below ten to the power of how many they are
pub value_below : (ds : List ℕ) → list_all is_ascii_digit ds ≡ true → digits_value 10 ds < 10 ^ length ds
value_below [] all = omega arith
value_below (d ∷ ds) all =
    let parts = and_parts (is_ascii_digit d) (list_all is_ascii_digit ds) all in
    let range = digit_range d parts.0 in
    let worth = digit_is d range.0 range.1 in
    let rest = value_below ds parts.1 in
    let small : digit_value d ≤ 9 = omega arith in
    let below = below_ten (digit_value d) (10 ^ length ds) (digits_value 10 ds) small rest in
    omega (arith, value_after_is (0 * 10 + digit_value d) ds, pow-suc 10 (length ds), below)

-- they write 0 just where each of them is 0
pub zeros_are : (ds : List ℕ) → list_all is_ascii_digit ds ≡ true → list_all (λ byte. byte == 48) ds ≡ (digits_value 10 ds == 0)
zeros_are [] all = refl
zeros_are (d ∷ ds) all =
    let parts = and_parts (is_ascii_digit d) (list_all is_ascii_digit ds) all in
    let range = digit_range d parts.0 in
    let worth = digit_is d range.0 range.1 in
    let first : (d == 48) ≡ (digit_value d == 0) = grind (arith, nat_tests) in
    ap₂ (λ a b. a && b) first (zeros_are ds parts.1)
    ∙ zero_sum (digit_value d) (10 ^ length ds) (digits_value 10 ds) (ten_some (length ds))
    ∙ ap (λ n. n == 0) (sym (value_after_is (0 * 10 + digit_value d) ds))

-- digits by the parts of their text
abbrev pub digits_from : List ℕ → List ℕ → Option Digits
digits_from whole decimals =
    if nat_lt 0 (length (whole ++ decimals)) && list_all is_ascii_digit (whole ++ decimals)
    then Some (record { value = digits_value 10 (whole ++ decimals); places = length decimals }) else None

-- the digits up to the last place that counts, and those behind them
value_parts : (whole decimals leading rest : List ℕ) → leading ++ rest ≡ decimals
    → digits_value 10 (whole ++ decimals) ≡ digits_value_after 10 (digits_value 10 whole) leading * 10 ^ length rest + digits_value 10 rest
value_parts whole decimals leading rest are =
    value_after-append 0 whole decimals ∙ ap (λ ds. digits_value_after 10 (digits_value 10 whole) ds) (sym are)
    ∙ value_after-append (digits_value 10 whole) leading rest
    ∙ value_after_is (digits_value_after 10 (digits_value 10 whole) leading) rest

-- what was counted, capped at the end of each step
counted : (n m k : ℕ) (leading : List ℕ) → 0 < k
    → min (min (digits_value_after 10 (min n m) leading) m * k) m ≡ min (digits_value_after 10 n leading * k) m
counted n m k leading some =
    ap (λ u. min (u * k) m) (value_after_capped n m leading) ∙ times_capped (digits_value_after 10 n leading) m k some

module _ (whole decimals leading rest : List ℕ) (p : ℕ) (are : leading ++ rest ≡ decimals) (long : length leading ≡ min (length decimals) p)
    (all : list_all is_ascii_digit rest ≡ true) where
  lengths : length leading + length rest ≡ length decimals
  lengths = sym (length-append leading rest) ∙ ap (λ ds. length {A = ℕ} ds) are

  abbrev counted_of : ℕ
  counted_of = digits_value_after 10 (digits_value 10 whole) leading

  abbrev value_of : ℕ
  value_of = digits_value 10 (whole ++ decimals)

  value_is : value_of ≡ counted_of * 10 ^ length rest + digits_value 10 rest
  value_is = value_parts whole decimals leading rest are

  no_rest : length decimals < p → value_of ≡ counted_of
  no_rest few =
      let none : length rest ≡ 0 = omega (arith, lengths) in
      let one : 10 ^ length rest ≡ 1 = ap (λ k. 10 ^ k) none in
      let zero_left : digits_value 10 rest < 10 ^ length rest = value_below rest all in
      let times : counted_of * 10 ^ length rest ≡ counted_of * 1 = ap (λ k. counted_of * k) one in
      omega (arith, value_is, times, zero_left, one)

  units_few : length decimals < p → counted_of * 10 ^ (p - length leading) ≡ value_of * 10 ^ p / 10 ^ length decimals
  units_few few =
      let same : length leading ≡ length decimals = omega arith in
      ap (λ k. counted_of * 10 ^ (p - k)) same ∙ sym (scaled_up counted_of (length decimals) p (omega arith))
      ∙ ap (λ v. v * 10 ^ p / 10 ^ length decimals) (sym (no_rest few))

  exact_few : length decimals < p → list_all (λ byte. byte == 48) rest ≡ (value_of * 10 ^ p % 10 ^ length decimals == 0)
  exact_few few =
      let none : length rest ≡ 0 = omega (arith, lengths) in
      let zero_left : digits_value 10 rest < 10 ^ length rest = value_below rest all in
      let nothing : digits_value 10 rest ≡ 0 = omega (arith, zero_left, ap (λ k. 10 ^ k) none) in
      zeros_are rest all ∙ ap (λ v. v == 0) (nothing ∙ sym (nothing_left value_of (length decimals) p (omega arith)))

  long_rest : p ≤ length decimals → value_of ≡ counted_of * 10 ^ (length decimals - p) + digits_value 10 rest
  long_rest many =
      let behind : length rest ≡ length decimals - p = omega (arith, lengths) in
      value_is ∙ ap (λ k. counted_of * 10 ^ k + digits_value 10 rest) behind

  low : p ≤ length decimals → digits_value 10 rest < 10 ^ (length decimals - p)
  low many =
      let behind : length rest ≡ length decimals - p = omega (arith, lengths) in
      omega (arith, value_below rest all, ap (λ k. 10 ^ k) behind)

  units_many : p ≤ length decimals → counted_of * 10 ^ (p - length leading) ≡ value_of * 10 ^ p / 10 ^ length decimals
  units_many many =
      let none : p - length leading ≡ 0 = omega arith in
      let once : counted_of * 10 ^ 0 ≡ counted_of = omega arith in
      ap (λ k. counted_of * 10 ^ k) none ∙ once
      ∙ sym (scaled_down counted_of (digits_value 10 rest) (length decimals) p many (low many))
      ∙ ap (λ v. v * 10 ^ p / 10 ^ length decimals) (sym (long_rest many))

  exact_many : p ≤ length decimals → list_all (λ byte. byte == 48) rest ≡ (value_of * 10 ^ p % 10 ^ length decimals == 0)
  exact_many many =
      zeros_are rest all ∙ times_zero (digits_value 10 rest) (10 ^ p) (ten_some p)
      ∙ ap (λ v. v == 0) (sym (left_over counted_of (digits_value 10 rest) (length decimals) p many (low many))
      ∙ ap (λ v. v * 10 ^ p % 10 ^ length decimals) (sym (long_rest many)))

  units_are : counted_of * 10 ^ (p - length leading) ≡ value_of * 10 ^ p / 10 ^ length decimals
  units_are = elim (cases_lt (length decimals) p) [ inl few ↦ units_few few | inr many ↦ units_many many ]

  exact_is : list_all (λ byte. byte == 48) rest ≡ (value_of * 10 ^ p % 10 ^ length decimals == 0)
  exact_is = elim (cases_lt (length decimals) p) [ inl few ↦ exact_few few | inr many ↦ exact_many many ]

  -- the parts of a text come to its digits, at so many places
  pub scan_of : (u1 u2 : ℕ) → list_all is_ascii_digit whole ≡ true → list_all is_ascii_digit leading ≡ true → 0 < length whole + length decimals
      → u1 ≡ min (digits_value_after 10 0 whole) most_scanned
      → u2 ≡ min (digits_value_after 10 u1 leading) most_scanned
      → Some (record { units = min (u2 * 10 ^ (p - length leading)) most_scanned; exact = list_all (λ byte. byte == 48) rest })
      ≡ option_map (scanned p) (digits_from whole decimals)
  scan_of u1 u2 whole_digits kept_digits some first second =
      let places : ℕ = p - length leading in
      let capped : min (u2 * 10 ^ (p - length leading)) most_scanned ≡ min (value_of * 10 ^ p / 10 ^ length decimals) most_scanned =
      ap (λ u. min (u * 10 ^ (p - length leading)) most_scanned)
      (second ∙ ap (λ u. min (digits_value_after 10 u leading) most_scanned) first)
      ∙ counted (digits_value_after 10 0 whole) most_scanned (10 ^ (p - length leading)) leading (ten_some (p - length leading))
      ∙ ap (λ v. min v most_scanned) units_are in
      let part_digits : list_all is_ascii_digit decimals ≡ true =
      ap (list_all is_ascii_digit) (sym are) ∙ list_all-append is_ascii_digit leading rest ∙ and_from _ _ kept_digits all in
      let digits : list_all is_ascii_digit (whole ++ decimals) ≡ true =
      list_all-append is_ascii_digit whole decimals ∙ and_from _ _ whole_digits part_digits in
      let there : nat_lt 0 (length (whole ++ decimals)) ≡ true = lt-ltb _ _ (omega (arith, length-append whole decimals)) in
      let test : (nat_lt 0 (length (whole ++ decimals)) && list_all is_ascii_digit (whole ++ decimals)) ≡ true = and_from _ _ there digits in
      ap₂ (λ a b. Some (record { units = a; exact = b })) capped exact_is
      ∙ ap (λ b. option_map (scanned p) (if b then Some (record { value = value_of; places = length decimals }) else None)) (sym test)

-- what a `Some` says of the test that gives it
pub some_if : {A : Type 0} (b : Bool) (x y : A) → Some x ≡ (if b then Some y else None) → (b ≡ true) × (x ≡ y)
some_if true x y e = (refl, (cc))
some_if false x y e = absurd (cc)

-- a list that is not empty
pub some_first : (n m : ℕ) (b : Bool) → b ≡ (n == 0) → b ≡ false → 0 < n + m
some_first n m b is not_empty = let none : n ≡ 0 → ⊥ = eqb-false n 0 (sym is ∙ not_empty) in omega arith

pub some_second : (n m : ℕ) (b : Bool) → b ≡ (m == 0) → b ≡ false → 0 < n + m
some_second n m b is not_empty = let none : m ≡ 0 → ⊥ = eqb-false m 0 (sym is ∙ not_empty) in omega arith
