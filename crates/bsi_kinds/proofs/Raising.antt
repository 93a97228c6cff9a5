-- Digits that are raised by an exponent, at so many places.
use Rattle.std.proofs.Common.{◌≡◌, ℕ, suc, ◌+◌, ◌-◌, ◌*◌, ◌/◌, ◌%◌, ◌^◌, ◌<◌, ◌≤◌, inl, inr, min, true, ◌&&◌, ◌==◌, List, [], ◌++◌, length, Option, Some, None, option_map, option_and_then, ℤ, pos, negsuc, neg_ℤ, ◌+ℤ◌, ◌∙◌, ap, ap₂, arith, sym, refl, length-append, append_assoc, lt-ltb, nat_lt, if◌then◌else◌}
use Rattle.std.proofs.Math.Nat.{mod-eq_of_lt, mul-div-mul_right, mul-le-mul_right, mul_assoc, pow-le-pow_right, div-eq_of_lt}
use Rattle.std.proofs.lemmas.Bool.{cases_lt, and_from}
use Rattle.std.proofs.lemmas.Int.{ints}
use Rattle.std.proofs.lemmas.List.Folds.{list_all-append}
use Rattle.std.proofs.lemmas.Nat.{div-add-mod', mod_below, mod-mul-add, pow-add}
use Rattle.std.specs.Char.{is_ascii_digit}
use Rattle.std.specs.List.{list_all}
use Rattle.std.specs.Str.Parse.{digits_value, digits_value_after}
use Rattle.bsi_kinds.specs.Decimals.{most_scanned, raised, scanned, Digits}
use Rattle.bsi_kinds.proofs.Scaling.{ten_some}
use Rattle.bsi_kinds.proofs.Scans.{digits_from, scan_of, times_zero, value_below}

-- what is left of a quotient, and whether nothing is, where both numbers are multiplied
spread : (a b c : ℕ) → a * c + b * c ≡ (a + b) * c
spread a b c = omega arith

left_times : (x y c : ℕ) → 0 < y → 0 < c → x * c % (y * c) ≡ (x % y) * c
left_times x y c some many =
    let low : x % y < y = mod_below x y some in
    let less : (x % y + 1) * c ≤ y * c = mul-le-mul_right c (omega arith) in
    let split : x / y * y + x % y ≡ x = div-add-mod' x y in
    let parts : (x / y) * (y * c) + (x % y) * c ≡ x * c =
    ap (λ q. q + (x % y) * c) (sym (mul_assoc (x / y) y c)) ∙ spread (x / y * y) (x % y) c ∙ ap (λ q. q * c) split in
    ap (λ q. q % (y * c)) (sym parts) ∙ mod-mul-add (x / y) (y * c) ((x % y) * c) (omega (arith, less, many))

same_test : (x y c : ℕ) → 0 < y → 0 < c → (x * c % (y * c) == 0) ≡ (x % y == 0)
same_test x y c some many = ap (λ r. r == 0) (left_times x y c some many) ∙ sym (times_zero (x % y) c many)

-- digits at so many places, and the same with both numbers multiplied
same_scan : (v w k l p q c : ℕ) → 0 < c → v * 10 ^ p ≡ w * 10 ^ q * c → 10 ^ k ≡ 10 ^ l * c
    → scanned p (record { value = v; places = k }) ≡ scanned q (record { value = w; places = l })
same_scan v w k l p q c some top bottom =
    ap₂ (λ a b. record { units = min (a / b) most_scanned; exact = a % b == 0 }) top bottom
    ∙ ap₂ (λ u e. record { units = min u most_scanned; exact = e })
    (mul-div-mul_right (w * 10 ^ q) (10 ^ l) some) (same_test (w * 10 ^ q) (10 ^ l) c (ten_some l) some)

one_more : (n : ℕ) → n * 1 ≡ n
one_more n = omega arith

-- raised digits at so many places are the digits at as many places as they then need
pub raised_up : (p a : ℕ) (e : ℤ) (d : Digits) → pos p +ℤ e ≡ pos a → scanned a d ≡ scanned p (raised d e)
raised_up p a (pos n) d is =
    let places : a ≡ n + p = omega (arith, ints, is) in
    sym (same_scan (d.value * 10 ^ n) d.value d.places d.places p a 1 (omega arith)
    (mul_assoc d.value (10 ^ n) (10 ^ p) ∙ ap (λ j. d.value * j) (sym (pow-add 10 n p) ∙ ap (λ j. 10 ^ j) (sym places)) ∙ sym (one_more (d.value * 10 ^ a)))
    (sym (one_more (10 ^ d.places))))
raised_up p a (negsuc n) d is =
    let places : p ≡ a + suc n = omega (arith, ints, is) in
    sym (same_scan d.value d.value (d.places + suc n) d.places p a (10 ^ suc n) (ten_some (suc n))
    (ap (λ j. d.value * 10 ^ j) places ∙ ap (λ j. d.value * j) (pow-add 10 a (suc n)) ∙ sym (mul_assoc d.value (10 ^ a) (10 ^ suc n)))
    (pow-add 10 d.places (suc n)))

-- or as many before the point
pub raised_down : (p b : ℕ) (e : ℤ) (d : Digits) → pos p +ℤ e ≡ neg_ℤ (pos b) → 0 < b
    → scanned 0 (record { value = d.value; places = d.places + b }) ≡ scanned p (raised d e)
raised_down p b (pos n) d is some = absurd (omega (arith, ints, is))
raised_down p b (negsuc n) d is some =
    let places : d.places + suc n ≡ (d.places + b) + p = omega (arith, ints, is) in
    sym (same_scan d.value d.value (d.places + suc n) (d.places + b) p 0 (10 ^ p) (ten_some p)
    (ap (λ j. j * 10 ^ p) (sym (one_more d.value)))
    (ap (λ j. 10 ^ j) places ∙ pow-add 10 (d.places + b) p))

pub map_raised : (p a : ℕ) (e : ℤ) (found : Option Digits) → pos p +ℤ e ≡ pos a
    → option_map (scanned a) found ≡ option_map (scanned p) (option_and_then (λ digits. option_map (raised digits) (Some e)) found)
map_raised p a e None is = refl
map_raised p a e (Some d) is = ap (λ s. Some s) (raised_up p a e d is)

pub map_lowered : (p b : ℕ) (e : ℤ) (found : Option Digits) → pos p +ℤ e ≡ neg_ℤ (pos b) → 0 < b
    → option_map (λ digits. scanned 0 (record { value = digits.value; places = digits.places + b })) found
    ≡ option_map (scanned p) (option_and_then (λ digits. option_map (raised digits) (Some e)) found)
map_lowered p b e None is some = refl
map_lowered p b e (Some d) is some = ap (λ s. Some s) (raised_down p b e d is some)

-- a number below ten to a power is below one unit of more places
below_unit : (v k l : ℕ) → v < 10 ^ k → k ≤ l → scanned 0 (record { value = v; places = l }) ≡ record { units = 0; exact = v == 0 }
below_unit v k l low more =
    let wide : 10 ^ k ≤ 10 ^ l = pow-le-pow_right {n = 10} (omega arith) {i = k} {j = l} more in
    let small : v * 10 ^ 0 < 10 ^ l = omega (arith, wide) in
    ap₂ (λ u e. record { units = min u most_scanned; exact = e == 0 }) (div-eq_of_lt small) (mod-eq_of_lt small ∙ omega arith)

same_below : (v k l : ℕ) → v < 10 ^ k → k ≤ l → scanned 0 (record { value = v; places = k }) ≡ scanned 0 (record { value = v; places = l })
same_below v k l low more = below_unit v k k low (omega arith) ∙ sym (below_unit v k l low more)

-- digits before the point and behind it
digits_there : (whole decimals : List ℕ) → 0 < length whole + length decimals → list_all is_ascii_digit whole ≡ true → list_all is_ascii_digit decimals ≡ true
    → digits_from whole decimals ≡ Some (record { value = digits_value 10 (whole ++ decimals); places = length decimals })
digits_there whole decimals some first second =
    let there : nat_lt 0 (length (whole ++ decimals)) ≡ true = lt-ltb _ _ (omega (arith, length-append whole decimals)) in
    let all : list_all is_ascii_digit (whole ++ decimals) ≡ true = list_all-append is_ascii_digit whole decimals ∙ and_from _ _ first second in
    ap (λ b. if b then Some (record { value = digits_value 10 (whole ++ decimals); places = length decimals }) else None) (and_from _ _ there all)

-- the digits before the point, and those behind them
module _ (whole decimals leading rest : List ℕ) (before : ℕ) (are : leading ++ rest ≡ whole) (long : length leading ≡ length whole - before)
    (rest_digits : list_all is_ascii_digit rest ≡ true) (part_digits : list_all is_ascii_digit decimals ≡ true)
    (kept_digits : list_all is_ascii_digit leading ≡ true) (some : 0 < length whole + length decimals) where
  behind_digits : list_all is_ascii_digit (rest ++ decimals) ≡ true
  behind_digits = list_all-append is_ascii_digit rest decimals ∙ and_from _ _ rest_digits part_digits

  lengths : length leading + length rest ≡ length whole
  lengths = sym (length-append leading rest) ∙ ap (λ ds. length {A = ℕ} ds) are

  behind_length : length (rest ++ decimals) ≡ length rest + length decimals
  behind_length = length-append rest decimals

  joined : leading ++ (rest ++ decimals) ≡ whole ++ decimals
  joined = sym (append_assoc leading rest decimals) ∙ ap (λ ds. ds ++ decimals) are

  -- what all digits come to, so many places before the point
  value_is : scanned 0 (record { value = digits_value 10 (leading ++ (rest ++ decimals)); places = length (rest ++ decimals) })
      ≡ scanned 0 (record { value = digits_value 10 (whole ++ decimals); places = length decimals + before })
  value_is = elim (cases_lt (length whole) before) [
    | inl many ↦ (
        let none : length leading ≡ 0 = omega arith in
        let size : length (leading ++ (rest ++ decimals)) ≡ length (rest ++ decimals) = length-append leading (rest ++ decimals) ∙ omega (arith, none) in
        let all : list_all is_ascii_digit (leading ++ (rest ++ decimals)) ≡ true = list_all-append is_ascii_digit leading (rest ++ decimals) ∙ and_from _ _ kept_digits behind_digits in
        let low : digits_value 10 (leading ++ (rest ++ decimals)) < 10 ^ length (rest ++ decimals) =
        omega (arith, value_below (leading ++ (rest ++ decimals)) all, ap (λ k. 10 ^ k) size) in
        same_below (digits_value 10 (leading ++ (rest ++ decimals))) (length (rest ++ decimals)) (length decimals + before) low (omega (arith, behind_length, lengths))
        ∙ ap (λ ds. scanned 0 (record { value = digits_value 10 ds; places = length decimals + before })) joined)
    | inr few ↦ (
        let places : length (rest ++ decimals) ≡ length decimals + before = omega (arith, behind_length, lengths) in
        ap₂ (λ ds k. scanned 0 (record { value = digits_value 10 ds; places = k })) joined places)
  ]

  pub scan_before : (u : ℕ) → u ≡ min (digits_value_after 10 0 leading) most_scanned
      → Some (record { units = u; exact = list_all (λ byte. byte == 48) rest && list_all (λ byte. byte == 48) decimals })
      ≡ option_map (λ digits. scanned 0 (record { value = digits.value; places = digits.places + before })) (digits_from whole decimals)
  scan_before u is =
      let zeros = sym (list_all-append (λ byte. byte == 48) rest decimals) in
      let whole_digits : list_all is_ascii_digit whole ≡ true =
      ap (list_all is_ascii_digit) (sym are) ∙ list_all-append is_ascii_digit leading rest ∙ and_from _ _ kept_digits rest_digits in
      let capped : u ≡ min (u * 10 ^ (0 - 0)) most_scanned = omega (arith, is) in
      let again : u ≡ min (digits_value_after 10 u []) most_scanned = omega (arith, is) in
      let filled : 0 < length leading + length (rest ++ decimals) = omega (arith, behind_length, lengths) in
      ap₂ (λ k e. Some (record { units = k; exact = e })) capped zeros
      ∙ scan_of leading (rest ++ decimals) [] (rest ++ decimals) 0 refl (omega arith) behind_digits u u kept_digits refl filled is again
      ∙ ap (option_map (scanned 0)) (digits_there leading (rest ++ decimals) filled kept_digits behind_digits)
      ∙ ap (λ s. Some s) value_is
      ∙ sym (ap (option_map (λ digits. scanned 0 (record { value = digits.value; places = digits.places + before }))) (digits_there whole decimals some whole_digits part_digits))
