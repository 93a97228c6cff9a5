-- Dates: what the bytes of a field spell, and how they are written.
use Rattle.std.specs.Prelude.{◌≡◌, ℕ, Bool, ◌&&◌, ◌==◌, nat_le, if◌then◌else◌, [], ◌∷◌, ◌++◌, Option, Some, None, option_map, option_and_then, ℤ, pos, unsigned_abs, int_lt}
use Rattle.std.specs.List.{after_first, before_first}
use Rattle.jiff_core.specs.Calendar.{days_from_civil, days_in_month}
use Rattle.jiff_core.specs.Date.{epoch_day}
use Rattle.jiff_core.specs.declared.civil.date.Date.{Date}
use Rattle.bsi_rows.specs.Fields.{Field}
use Rattle.bsi_kinds.specs.Decimals.{short_number}
use Rattle.bsi_kinds.specs.DecimalTexts.{last_digits}
use Rattle.bsi_kinds.specs.declared.date.DateForm.{DateForm}
use Rattle.bsi_kinds.specs.declared.date.DateOrder.{DateOrder}
use Rattle.bsi_kinds.specs.declared.date.DateOrder.TheVariants.{YearFirst, DayFirst, MonthFirst}

-- A year, a month and a day.
pub record Ymd : Type 0 where
  pub year : ℕ
  pub month : ℕ
  pub day : ℕ

-- A year of four digits, a month and a day of one or two.
abbrev pub ymd_of : Field → Field → Field → Option Ymd
ymd_of year month day =
    option_and_then (λ y. option_and_then (λ m. option_map (λ d. record { year = y; month = m; day = d })
    (short_number 1 2 day)) (short_number 1 2 month)) (short_number 4 4 year)

-- Three texts as a year, a month and a day, in the order of a form.
abbrev pub ordered : DateOrder → Field → Field → Field → Option Ymd
ordered YearFirst first second third = ymd_of first second third
ordered DayFirst first second third = ymd_of third second first
ordered MonthFirst first second third = ymd_of third first second

-- A text, split at the sign of a form, as a year, a month and a day.
abbrev pub ymd_in : DateForm → Field → Option Ymd
ymd_in form text =
    ordered form.order (before_first (λ byte. byte == form.sign) text)
    (before_first (λ byte. byte == form.sign) (after_first (λ byte. byte == form.sign) text))
    (after_first (λ byte. byte == form.sign) (after_first (λ byte. byte == form.sign) text))

-- The calendar has the day.
abbrev pub is_day : Ymd → Bool
is_day d = nat_le 1 d.month && nat_le d.month 12 && nat_le 1 d.day && nat_le d.day (days_in_month (pos d.year) d.month)

-- The number of a day: days since 1970-01-01.
abbrev pub day_number : Ymd → Option ℤ
day_number d = if is_day d then Some (days_from_civil (pos d.year) d.month d.day) else None

-- The number of the day that a text spells in a form.
abbrev pub date_number : DateForm → Field → Option ℤ
date_number form text = option_and_then day_number (ymd_in form text)

-- A date as text: 2026-01-31.
abbrev pub date_text : Date → Field
date_text d =
    (if int_lt d.year (pos 0) then 45 ∷ [] else [])
    ++ (last_digits 4 (unsigned_abs d.year) ++ 45 ∷ (last_digits 2 d.month ++ 45 ∷ last_digits 2 d.day))

-- The text of the date of a day was appended.
pub record WritesDate (day : ℤ) (old new : Field) : Type 0 where
  pub date : Date
  pub is : epoch_day date ≡ day
  pub written : new ≡ old ++ date_text date
