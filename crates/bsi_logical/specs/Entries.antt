-- What the fields of a row file and the constants of a question mean in a column of a kind; whether the values of two
-- kinds are the same, and whether numbers may be summed.
use Rattle.std.specs.Prelude.{◌≡◌, ℕ, Bool, true, false, not, ◌&&◌, ◌||◌, ◌==◌, if◌then◌else◌, length, Option, Some, None, ℤ}
use Rattle.std.specs.Cmp.Lexicographic.{pointwise}
use Rattle.std.specs.Str.{bytes_eq}
use Rattle.bsi_rows.specs.Fields.{Field}
use Rattle.bsi_kinds.specs.Kinds.{value_of, IsSpelled, Value}
use Rattle.bsi_kinds.specs.Nulls.{is_null_word}
use Rattle.bsi_kinds.specs.Times.{unit_places}
use Rattle.bsi_kinds.specs.declared.date.DateForm.{DateForm}
use Rattle.bsi_kinds.specs.declared.date.DateOrder.TheVariants.{YearFirst}
use Rattle.bsi_kinds.specs.declared.kind.Kind.{Kind}
use Rattle.bsi_kinds.specs.declared.kind.Kind.TheVariants.{Boolean, Date, Decimal, Rounded, Text, Time}
use Rattle.bsi_logical.specs.Logical.{kind_of, Logical}

abbrev pub is_text : Kind → Bool
is_text (Decimal places) = false
is_text (Rounded places) = false
is_text (Date form) = false
is_text (Time form) = false
is_text (Boolean form) = false
is_text (Text texts) = true

-- A field is a null: it is empty or, unless the column has texts, a null word.
abbrev pub is_null : Logical → ℕ → Field → Bool
is_null l c field = (length field == 0) || (not (is_text (kind_of l c)) && is_null_word l.nulls field)

-- The entry that a field of column c spells: a null, or the number that stands for its value.
abbrev pub IsEntry : Logical → ℕ → Field → Option ℤ → Type 0
IsEntry l c field None = is_null l c field ≡ true
IsEntry l c field (Some n) = (is_null l c field ≡ false) × IsSpelled (kind_of l c) l.dialect.point field n

-- Dates as questions write them: 2026-01-31.
abbrev pub iso_date : DateForm
iso_date = record { order = YearFirst; sign = 45 }

-- The kind by which questions write constants.
abbrev pub asked_kind : Kind → Kind
asked_kind (Decimal places) = Decimal places
asked_kind (Rounded places) = Rounded places
asked_kind (Date form) = Date iso_date
asked_kind (Time form) = Time (record form { date = iso_date })
asked_kind (Boolean form) = Boolean form
asked_kind (Text texts) = Text texts

-- The value of a constant. Its decimals have a point.
abbrev pub constant_of : Kind → Field → Option Value
constant_of kind text = value_of (asked_kind kind) 46 text

-- Numbers of both kinds stand for the same values. Decimals have as many places, and texts are the same.
-- Times have one unit, and are both local or both in UTC.
abbrev pub HaveSameValues : Kind → Kind → Type 0
HaveSameValues (Decimal p) (Decimal q) = p ≡ q
HaveSameValues (Decimal p) (Rounded q) = p ≡ q
HaveSameValues (Rounded p) (Decimal q) = p ≡ q
HaveSameValues (Rounded p) (Rounded q) = p ≡ q
HaveSameValues (Date f) (Date g) = Unit {0}
HaveSameValues (Time f) (Time g) = (f.unit ≡ g.unit) × (f.utc ≡ g.utc)
HaveSameValues (Boolean f) (Boolean g) = Unit {0}
HaveSameValues (Text a) (Text b) = a ≡ b
HaveSameValues first second = ⊥

-- The same as a test.
abbrev pub have_same_values : Kind → Kind → Bool
have_same_values (Decimal p) (Decimal q) = p == q
have_same_values (Decimal p) (Rounded q) = p == q
have_same_values (Rounded p) (Decimal q) = p == q
have_same_values (Rounded p) (Rounded q) = p == q
have_same_values (Date f) (Date g) = true
have_same_values (Time f) (Time g) = (unit_places f.unit == unit_places g.unit) && (if f.utc then g.utc else not g.utc)
have_same_values (Boolean f) (Boolean g) = true
have_same_values (Text a) (Text b) = pointwise bytes_eq a b
have_same_values first second = false

-- The numbers of the kind can be summed.
abbrev pub is_summed : Kind → Bool
is_summed (Decimal places) = true
is_summed (Rounded places) = true
is_summed (Date form) = false
is_summed (Time form) = false
is_summed (Boolean form) = false
is_summed (Text texts) = false
