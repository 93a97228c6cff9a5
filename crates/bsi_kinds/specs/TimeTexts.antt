-- The text of a time (`time_text`), and which time is written for a number (`WritesTime`).
use Rattle.std.specs.Prelude.{◌≡◌, ℕ, ◌<◌, ◌^◌, if◌then◌else◌, [], ◌∷◌, ◌++◌, ℤ, pos, ◌+ℤ◌, ◌*ℤ◌}
use Rattle.jiff_core.specs.Date.{epoch_day}
use Rattle.jiff_core.specs.Time.{time_seconds}
use Rattle.jiff_core.specs.declared.civil.date.Date.{Date}
use Rattle.jiff_core.specs.declared.civil.time.Time.{Time}
use Rattle.bsi_kinds.specs.Dates.{date_text}
use Rattle.bsi_rows.specs.Fields.{Field}
use Rattle.bsi_kinds.specs.DecimalTexts.{last_digits, places_text}
use Rattle.bsi_kinds.specs.Times.{unit_places}
use Rattle.bsi_kinds.specs.declared.time.TimeForm.{TimeForm}
use Rattle.bsi_kinds.specs.declared.time.TimeUnit.{TimeUnit}

-- The number of a time: a day, a clock, and units of less than a second.
abbrev pub number_on_day : TimeUnit → Date → Time → ℕ → ℤ
number_on_day unit d t subsecond = (epoch_day d *ℤ pos 86400 +ℤ pos (time_seconds t)) *ℤ pos (10 ^ unit_places unit) +ℤ pos subsecond

-- A clock as text: 10:30:00.
abbrev pub clock_text : Time → Field
clock_text t = last_digits 2 t.hour ++ 58 ∷ (last_digits 2 t.minute ++ 58 ∷ last_digits 2 t.second)

-- A time as text: 2026-01-31T10:30:00.125.
abbrev pub time_text : TimeForm → Date → Time → ℕ → Field
time_text form d t subsecond =
    date_text d ++ 84 ∷ (clock_text t ++ (places_text (unit_places form.unit) subsecond ++ (if form.utc then 90 ∷ [] else [])))

-- The time of a number was written.
pub record WritesTime (form : TimeForm) (n : ℤ) (old new : Field) : Type 0 where
  -- The date of the time.
  pub date : Date
  -- The clock of the time.
  pub time : Time
  -- The units after the last whole second.
  pub subsecond : ℕ
  -- The units are less than a second.
  pub small : subsecond < 10 ^ unit_places form.unit
  -- The date, the clock and the units are those of the number.
  pub is : number_on_day form.unit date time subsecond ≡ n
  -- The text of the time was appended.
  pub written : new ≡ old ++ time_text form date time subsecond
