-- Which of the candidates of a column is chosen (`choice_of`), and which fields the choice can read (`IsChosenFor`).
use Rattle.std.specs.Prelude.{◌≡◌, ◌≤◌, ℕ, ◌&&◌, Bool, true, false, nat_le, if◌then◌else◌, List, Option, Some, None, option_map, unwrap_or, ℤ}
use Rattle.std.specs.List.{list_any}
use Rattle.bsi_kinds.specs.Dates.{date_number}
use Rattle.bsi_rows.specs.Fields.{Field}
use Rattle.bsi_kinds.specs.Decimals.{decimal_entry}
use Rattle.bsi_kinds.specs.Rounding.{rounded_entry}
use Rattle.bsi_kinds.specs.declared.date.DateForm.{DateForm}
use Rattle.bsi_kinds.specs.declared.date.DateOrder.{DateOrder}
use Rattle.bsi_kinds.specs.declared.date.DateOrder.TheVariants.{YearFirst, DayFirst, MonthFirst}
use Rattle.bsi_inference.specs.Candidates.{first_remaining, is_month_first}
use Rattle.bsi_inference.specs.Decimals.{IsPlainDecimal}
use Rattle.bsi_inference.specs.Forms.{SpellsInForm}
use Rattle.bsi_inference.specs.Seen.{IsInSpan}
use Rattle.bsi_inference.specs.declared.choice.Choice.{Choice}
use Rattle.bsi_inference.specs.declared.choice.Choice.TheVariants.{Nothing, Decimals, Rounded, Form as FormChoice, Digits, Orders, Texts}
use Rattle.bsi_inference.specs.declared.candidate.Candidate.{Candidate}
use Rattle.bsi_inference.specs.declared.decimals.Decimals.{Decimals as DecimalsSeen}
use Rattle.bsi_inference.specs.declared.form.Form.{Form}
use Rattle.bsi_inference.specs.declared.form.Form.TheVariants.{Boolean, Date, Time}
use Rattle.bsi_inference.specs.declared.seen.Seen.{Seen}
use Rattle.bsi_inference.specs.declared.seen.Seen.TheVariants.{Nothing as NothingSeen, Numbers, RuledOut}
use Rattle.bsi_inference.specs.declared.span.Span.{Span}

-- A field has a number in a span.
pub record HasNumberIn (Is : ℤ → Type 0) (span : Span) : Type 0 where
  pub number : ℤ
  pub is : Is number
  pub within : IsInSpan span number

-- A field has a number in a span, by a form.
abbrev pub HasFormNumberIn : Form → Span → Field → Type 0
HasFormNumberIn form span f = HasNumberIn (SpellsInForm form f) span

-- A field has a number in a span, as a decimal.
abbrev pub HasDecimalIn : ℕ → ℕ → Span → Field → Type 0
HasDecimalIn point places span f = HasNumberIn (λ n. decimal_entry point places f ≡ Some n) span

-- A field has a number in a span, as a decimal that is rounded.
abbrev pub HasRoundedIn : ℕ → ℕ → Span → Field → Type 0
HasRoundedIn point places span f = HasNumberIn (λ n. rounded_entry point places f ≡ Some n) span

-- A date in an order, with a sign between two numbers.
abbrev pub IsDateIn : DateOrder → ℕ → Field → Type 0
IsDateIn order sign f = (day : ℤ) × (date_number (record { order = order; sign = sign }) f ≡ Some day)

-- A field is a date with the day first, and also one with the month first.
pub record IsDateInBoth (sign : ℕ) (f : Field) : Type 0 where
  pub day_first : IsDateIn DayFirst sign f
  pub month_first : IsDateIn MonthFirst sign f

-- The choice can read a field.
abbrev pub IsChosenFor : ℕ → Choice → Field → Type 0
IsChosenFor point Nothing f = ⊥
IsChosenFor point (Decimals places span) f = HasDecimalIn point places span f
IsChosenFor point (Rounded places span) f = HasRoundedIn point places span f
IsChosenFor point (FormChoice form span) f = HasFormNumberIn form span f
IsChosenFor point (Digits places) f = IsPlainDecimal point places f
IsChosenFor point (Orders sign) f = IsDateInBoth sign f
IsChosenFor point Texts f = Unit {0}

abbrev pub is_day_first : DateOrder → Bool
is_day_first YearFirst = false
is_day_first DayFirst = true
is_day_first MonthFirst = false

-- Dates with the day first are in doubt, if dates with the month first and the same sign are not ruled out.
abbrev pub date_choice : List Candidate → Span → DateForm → Choice
date_choice candidates span form =
    if is_day_first form.order && list_any (is_month_first form.sign) candidates then Orders form.sign else FormChoice (Date form) span

abbrev pub order_choice : List Candidate → Form × Span → Choice
order_choice candidates (Boolean, span) = FormChoice Boolean span
order_choice candidates (Date form, span) = date_choice candidates span form
order_choice candidates (Time form, span) = FormChoice (Time form) span

-- The first form that is not ruled out, or else decimals of too many digits, or else texts.
abbrev pub form_choice : DecimalsSeen → List Candidate → Choice
form_choice decimals candidates =
    unwrap_or (option_map (order_choice candidates) (first_remaining candidates)) (if decimals.spelled then Digits decimals.places else Texts)

-- Decimals of the numbers that were seen, rounded or not, if they have at most 18 places, or else a form.
abbrev pub number_choice : Option ℕ → Span → DecimalsSeen → List Candidate → Choice
number_choice None span decimals candidates =
    if nat_le decimals.places 18 then Decimals decimals.places span else form_choice decimals candidates
number_choice (Some places) span decimals candidates =
    if nat_le places 18 then Rounded places span else form_choice decimals candidates

-- Decimals, if they are not ruled out, or else a form.
abbrev pub decimal_choice : Seen → DecimalsSeen → List Candidate → Choice
decimal_choice NothingSeen decimals candidates = Nothing
decimal_choice (Numbers span) decimals candidates = number_choice decimals.rounding span decimals candidates
decimal_choice RuledOut decimals candidates = form_choice decimals candidates

abbrev pub choice_of : DecimalsSeen → List Candidate → Choice
choice_of decimals candidates = decimal_choice decimals.seen decimals candidates

-- Decimals have at most 18 places.
abbrev pub HasFewPlaces : Choice → Type 0
HasFewPlaces (Decimals places span) = places ≤ 18
HasFewPlaces (Rounded places span) = places ≤ 18
HasFewPlaces choice = Unit {0}
