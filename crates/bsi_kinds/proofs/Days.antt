-- Days of the calendar, and what spells them.
use Rattle.std.proofs.Common.{◌≡◌, ℕ, ◌^◌, ◌<◌, ◌≤◌, min, true, false, not, ◌&&◌, ◌==◌, List, [], ◌∷◌, ◌++◌, length, ◌∙◌, ap, ap₂, arith, sym, refl, subst, le-ltb, nat_le, if◌then◌else◌, ℤ, pos, negsuc, unsigned_abs, int_lt, ◌≤ℤ◌, Option, Some, None, option_map, option_and_then, Result, Ok, Err, IfOk, FitsSigned, neg_ℤ}
use mir.Val.{of_z, to_z}
use Rattle.std.specs.Int.{w8, w16, w32, w64}
use Rattle.std.specs.Result.{result_ok}
use Rattle.std.proofs.Math.Nat.{mod-eq_of_lt, pow-le-pow_right}
use Rattle.std.proofs.lemmas.Bool.{and_from, cond_both, le-leb, ne_eqb}
use Rattle.std.proofs.lemmas.Int.{ints, to_z-of_z}
use Rattle.std.specs.Char.{is_ascii_digit}
use Rattle.std.specs.List.{list_all}
use Rattle.std.specs.Str.Parse.{digits_value, digits_value_after}
use Rattle.jiff_core.specs.Calendar.{days_from_civil, days_in_month, is_leap_year}
use Rattle.jiff_core.specs.Date.{epoch_day, IsYmd}
use Rattle.jiff_core.specs.declared.civil.date.Date.{Date}
use Rattle.bsi_kinds.specs.Dates.{date_number, date_text, day_number, is_day, ordered, ymd_of, Ymd}
use Rattle.bsi_kinds.specs.Decimals.{fraction, integer_digits, most_scanned, short_number}
use Rattle.bsi_kinds.specs.DecimalTexts.{last_digits}
use Rattle.bsi_kinds.specs.declared.date.DateForm.{DateForm}
use Rattle.bsi_kinds.specs.declared.date.DateOrder.{DateOrder}
use Rattle.bsi_kinds.specs.declared.date.DateOrder.TheVariants.{YearFirst}
use Rattle.bsi_kinds.proofs.Cuts.{after_is, before_is, digits_lack, Lacks}
use Rattle.bsi_kinds.proofs.Scans.{digit_range, some_if, value_below}
use Rattle.bsi_kinds.proofs.Writing.{last_all, last_value, length_last}

-- a number of few digits was read
module _ (least most number : ℕ) (text : List ℕ) (long : least ≤ length text) (short : length text ≤ most) (few : most ≤ 4)
    (read : Some number ≡ (if list_all is_ascii_digit text then Some (min (digits_value_after 10 0 text) most_scanned) else None)) where
  digits : list_all is_ascii_digit text ≡ true
  digits = (some_if _ _ _ read).0

  below : digits_value 10 text < 10 ^ most
  below =
      let within : 10 ^ length text ≤ 10 ^ most = pow-le-pow_right {n = 10} (omega arith) {i = length text} {j = most} short in
      omega (arith, within, value_below text digits)

  small_power : 10 ^ most ≤ 10 ^ 4
  small_power = pow-le-pow_right {n = 10} (omega arith) {i = most} {j = 4} few

  pub number_is : number ≡ digits_value 10 text
  number_is = (some_if _ _ _ read).1 ∙ omega (arith, below, small_power)

  pub number_small : number < 10 ^ most
  number_small = omega (arith, number_is, below)

  pub number_fits : number < 2 ^ 16
  number_fits = omega (arith, number_small, small_power)

  pub part_is : Some number ≡ short_number least most text
  part_is =
      ap (λ n. Some n) number_is
      ∙ ap (λ b. if b then Some (digits_value 10 text) else None)
      (sym (and_from _ _ (and_from _ _ (le-leb least (length text) long) (le-leb (length text) most short)) digits))

-- the day of a date
pub is_day_of : (d : Date) (y : ℕ) → d.year ≡ pos y → is_day (record { year = y; month = d.month; day = d.day }) ≡ true
is_day_of d y year =
    let month = d.month_in in
    let day = d.day_in in
    let last : d.day ≤ days_in_month (pos y) d.month = subst (λ (z : ℤ). d.day ≤ days_in_month z d.month) year day.1 in
    and_from _ _ (and_from _ _ (and_from _ _ (le-leb 1 d.month month.0) (le-leb d.month 12 month.1)) (le-leb 1 d.day day.0)) (le-leb d.day (days_in_month (pos y) d.month) last)

pub day_number_of : (d : Date) (y : ℕ) → d.year ≡ pos y → day_number (record { year = y; month = d.month; day = d.day }) ≡ Some (epoch_day d)
day_number_of d y year =
    ap (λ b. if b then Some (days_from_civil (pos y) d.month d.day) else None) (is_day_of d y year)
    ∙ ap (λ z. Some (days_from_civil z d.month d.day)) (sym year)

-- what a call says of the value that it gave
pub at_ok : {T E : Type 0} (r : Result T E) (P : T → Type 0) (x : T) → IfOk r P → r ≡ Ok x → P x
at_ok r P x holds is = subst (λ (q : Result _ _). IfOk q P) is holds

-- three numbers, by the signs between them, in the order of a form
pub dated : (form : DateForm) (text first rest second third : List ℕ) (order : DateOrder) → form.order ≡ order
    → first ≡ integer_digits form.sign text → rest ≡ fraction form.sign text → second ≡ integer_digits form.sign rest → third ≡ fraction form.sign rest
    → option_and_then day_number (ordered order first second third) ≡ date_number form text
dated form text first rest second third order is one behind two three =
    ap (λ o. option_and_then day_number (ordered o first second third)) (sym is)
    ∙ ap (λ a. option_and_then day_number (ordered form.order a second third)) one
    ∙ ap (λ b. option_and_then day_number (ordered form.order (integer_digits form.sign text) b third)) (two ∙ ap (integer_digits form.sign) behind)
    ∙ ap (λ c. option_and_then day_number (ordered form.order (integer_digits form.sign text) (integer_digits form.sign (fraction form.sign text)) c)) (three ∙ ap (fraction form.sign) behind)

-- what a call says of the value in its answer
from_ok : {T E : Type 0} (r : Result T E) (P : T → Type 0) (x : T) → Some x ≡ result_ok r → IfOk r P → P x
from_ok (Ok y) P x is holds = let same : y ≡ x = (cc) in subst P same holds
from_ok (Err e) P x is holds = absurd (cc)

-- a year, a month and a day that were read, and their date
abbrev joined : Option ℕ → Option ℕ → Option ℕ → Option Ymd
joined a b c = option_and_then (λ y. option_and_then (λ m. option_map (λ d. record { year = y; month = m; day = d }) c) b) a

pub ymd_found : {E : Type 0} (year month day : List ℕ) (y m k : ℕ) (d : Date) (r : Result Date E) (n : ℤ)
    → Some y ≡ short_number 4 4 year → y < 10000 → Some m ≡ short_number 1 2 month → m < 100 → Some k ≡ short_number 1 2 day → k < 100
    → Some d ≡ result_ok r → IfOk r (IsYmd (to_z w16 y) (to_z w8 m) (to_z w8 k)) → n ≡ epoch_day d
    → Some n ≡ option_and_then day_number (ymd_of year month day)
ymd_found year month day y m k d r n one small_y two small_m three small_k found is number =
    let parts = from_ok r (IsYmd (to_z w16 y) (to_z w8 m) (to_z w8 k)) d found is in
    let at_year : d.year ≡ pos y = parts.0 ∙ omega (arith, ints) in
    let at_month : d.month ≡ m = omega (arith, ints, parts.1) in
    let at_day : d.day ≡ k = omega (arith, ints, parts.2) in
    ap (λ z. Some z) number
    ∙ sym (day_number_of d y at_year)
    ∙ ap₂ (λ a b. day_number (record { year = y; month = a; day = b })) at_month at_day
    ∙ ap (λ a. option_and_then day_number (joined a (Some m) (Some k))) one
    ∙ ap (λ b. option_and_then day_number (joined (short_number 4 4 year) b (Some k))) two
    ∙ ap (λ c. option_and_then day_number (joined (short_number 4 4 year) (short_number 1 2 month) c)) three

-- the number of a day, as it is cast
pub cast_twice : (n w v : ℤ) → ((neg_ℤ (pos 4371587)) ≤ℤ n) × (n ≤ℤ pos 2932896) → w ≡ to_z w32 (of_z w32 n) → v ≡ to_z w64 (of_z w64 w) → v ≡ n
cast_twice n w v bound first second =
    let fits : FitsSigned w32 n = omega (arith, ints) in
    let once : w ≡ n = first ∙ to_z-of_z w32 n fits in
    let wide : FitsSigned w64 w = omega (arith, ints) in
    second ∙ to_z-of_z w64 w wide ∙ once

-- ---- a date that is written is read again

-- the sign stands behind the digits
minus_apart : (d : ℕ) → is_ascii_digit d ≡ true → not (d == 45) ≡ true
minus_apart d is = let range = digit_range d is in ap not (ne_eqb d 45 (λ e. omega arith))

no_minus : (ds : List ℕ) → list_all is_ascii_digit ds ≡ true → Lacks (λ byte. byte == 45) ds
no_minus ds all = digits_lack (λ byte. byte == 45) minus_apart ds all

before_minus : (ds rest : List ℕ) → list_all is_ascii_digit ds ≡ true → integer_digits 45 (ds ++ 45 ∷ rest) ≡ ds
before_minus ds rest all = before_is (λ byte. byte == 45) ds rest 45 (no_minus ds all) refl

behind_minus : (ds rest : List ℕ) → list_all is_ascii_digit ds ≡ true → fraction 45 (ds ++ 45 ∷ rest) ≡ rest
behind_minus ds rest all = after_is (λ byte. byte == 45) ds rest 45 (no_minus ds all) refl

-- the last digits of a small number are the number
pub part_text : (least k n : ℕ) → least ≤ k → n < 10 ^ k → short_number least k (last_digits k n) ≡ Some n
part_text least k n low small =
    let long = length_last k n in
    let test : (nat_le least (length (last_digits k n)) && nat_le (length (last_digits k n)) k && list_all is_ascii_digit (last_digits k n)) ≡ true =
    and_from _ _ (and_from _ _ (le-leb least (length (last_digits k n)) (omega (arith, long))) (le-leb (length (last_digits k n)) k (omega (arith, long)))) (last_all k n) in
    ap (λ b. if b then Some (digits_value 10 (last_digits k n)) else None) test
    ∙ ap (λ v. Some v) (last_value k n ∙ mod-eq_of_lt small)

month_days : (y : ℤ) (m : ℕ) → days_in_month y m ≤ 31
month_days y m =
    cond_both (m == 2) _ _ (λ n. n ≤ 31) (λ e. cond_both (is_leap_year y) 29 28 (λ n. n ≤ 31) (λ l. omega arith) (λ l. omega arith))
    (λ e. cond_both _ 30 31 (λ n. n ≤ 31) (λ l. omega arith) (λ l. omega arith))

not_negative : (z : ℤ) → pos 0 ≤ℤ z → (z ≡ pos (unsigned_abs z)) × (int_lt z (pos 0) ≡ false)
not_negative (pos n) low = (refl, le-ltb n 0 (omega arith))
not_negative (negsuc n) low = absurd (omega (arith, ints))

abbrev year_first : DateForm
year_first = record { order = YearFirst; sign = 45 }

pub date_spells : (d : Date) → pos 0 ≤ℤ d.year → date_number year_first (date_text d) ≡ Some (epoch_day d)
date_spells d low =
    let plain = not_negative d.year low in
    let y : ℕ = unsigned_abs d.year in
    let year : List ℕ = last_digits 4 (unsigned_abs d.year) in
    let rest : List ℕ = last_digits 2 d.month ++ 45 ∷ last_digits 2 d.day in
    let most : unsigned_abs d.year < 10000 = omega (arith, ints, plain.0, d.year_in) in
    let days : d.day ≤ 31 = omega (arith, d.day_in, month_days d.year d.month) in
    let first = last_all 4 (unsigned_abs d.year) in
    let second = last_all 2 d.month in
    let text : date_text d ≡ last_digits 4 (unsigned_abs d.year) ++ 45 ∷ (last_digits 2 d.month ++ 45 ∷ last_digits 2 d.day) =
    ap (λ b. (if b then 45 ∷ [] else []) ++ (last_digits 4 (unsigned_abs d.year) ++ 45 ∷ (last_digits 2 d.month ++ 45 ∷ last_digits 2 d.day))) plain.1 in
    let behind = behind_minus (last_digits 4 (unsigned_abs d.year)) (last_digits 2 d.month ++ 45 ∷ last_digits 2 d.day) first in
    ap (date_number year_first) text
    ∙ sym (dated year_first (last_digits 4 (unsigned_abs d.year) ++ 45 ∷ (last_digits 2 d.month ++ 45 ∷ last_digits 2 d.day))
    (last_digits 4 (unsigned_abs d.year)) (last_digits 2 d.month ++ 45 ∷ last_digits 2 d.day) (last_digits 2 d.month) (last_digits 2 d.day) YearFirst refl
    (sym (before_minus (last_digits 4 (unsigned_abs d.year)) (last_digits 2 d.month ++ 45 ∷ last_digits 2 d.day) first)) (sym behind)
    (sym (before_minus (last_digits 2 d.month) (last_digits 2 d.day) second)) (sym (behind_minus (last_digits 2 d.month) (last_digits 2 d.day) second)))
    ∙ ap (λ a. option_and_then day_number (joined a (short_number 1 2 (last_digits 2 d.month)) (short_number 1 2 (last_digits 2 d.day)))) (part_text 4 4 (unsigned_abs d.year) (omega arith) most)
    ∙ ap (λ b. option_and_then day_number (joined (Some (unsigned_abs d.year)) b (short_number 1 2 (last_digits 2 d.day)))) (part_text 1 2 d.month (omega arith) (omega (arith, d.month_in)))
    ∙ ap (λ c. option_and_then day_number (joined (Some (unsigned_abs d.year)) (Some d.month) c)) (part_text 1 2 d.day (omega arith) (omega arith))
    ∙ day_number_of d (unsigned_abs d.year) plain.0
