-- How answers write the numbers of columns of kinds (`logical_texts`), and which texts stand in double quotes.
use Rattle.std.specs.Prelude.{◌≡◌, ◌⊎◌, ℕ, ℤ, Bool, ◌||◌, ◌==◌, nat_lt, if◌then◌else◌, [], ◌∷◌, ◌++◌, length, unsigned_abs, FitsSigned}
use Rattle.std.specs.Fmt.{signed_decimal}
use Rattle.std.specs.Int.{w64}
use Rattle.std.specs.List.{flat_map, list_any}
use Rattle.bsi_kinds.specs.DecimalTexts.{decimal_text}
use Rattle.bsi_rows.specs.Fields.{Field}
use Rattle.bsi_kinds.specs.Dictionaries.{text_at}
use Rattle.bsi_kinds.specs.Kinds.{IsNumber, Writes}
use Rattle.bsi_kinds.specs.declared.kind.Kind.{Kind}
use Rattle.bsi_kinds.specs.declared.kind.Kind.TheVariants.{Boolean, Date, Decimal, Rounded, Text, Time}
use Rattle.bsi_logical.specs.Logical.{kind_of, Logical}

-- ---- quotes

-- The bytes that an answer can have between texts: a control byte, a space, a double quote, a comma, a colon or `=`.
abbrev pub is_special : ℕ → Bool
is_special byte = nat_lt byte 33 || byte == 34 || byte == 44 || byte == 58 || byte == 61 || byte == 127

-- A text needs quotes if it is empty or has such a byte.
abbrev pub needs_quotes : Field → Bool
needs_quotes text = (length text == 0) || list_any is_special text

-- A byte of a text in quotes: a quote twice, another byte as it is.
abbrev pub quoted_byte : ℕ → Field
quoted_byte byte = if byte == 34 then 34 ∷ 34 ∷ [] else byte ∷ []

-- A text as answers have it: in double quotes if it needs them.
abbrev pub quoted : Field → Field
quoted text = if needs_quotes text then 34 ∷ [] ++ flat_map quoted_byte text ++ 34 ∷ [] else text

-- ---- numbers

-- The text of the value of a number.
abbrev pub IsValueText : Kind → ℤ → Field → Type 0
IsValueText (Decimal places) n text = Writes (Decimal places) n [] text
IsValueText (Rounded places) n text = Writes (Rounded places) n [] text
IsValueText (Date form) n text = Writes (Date form) n [] text
IsValueText (Time form) n text = Writes (Time form) n [] text
IsValueText (Boolean form) n text = Writes (Boolean form) n [] text
IsValueText (Text texts) n text = text ≡ quoted (text_at texts (unsigned_abs n))

-- The number is of 64 bits, and stands for a value of the kind.
abbrev pub HasValue : Kind → ℤ → Type 0
HasValue kind n = FitsSigned w64 n × IsNumber kind n

-- The text of the value of a number that stands for one, or of another whole number.
abbrev pub IsValueOrNumber : Kind → ℤ → Field → Type 0
IsValueOrNumber kind n text =
    (HasValue kind n × IsValueText kind n text) ⊎ ((HasValue kind n → ⊥) × (text ≡ signed_decimal n))

-- The text of a number of a kind. That of a sum of decimals may have more than 64 bits.
abbrev pub IsNumberText : Kind → ℤ → Field → Type 0
IsNumberText (Decimal places) n text = text ≡ decimal_text places n
IsNumberText (Rounded places) n text = text ≡ decimal_text places n
IsNumberText (Date form) n text = IsValueOrNumber (Date form) n text
IsNumberText (Time form) n text = IsValueOrNumber (Time form) n text
IsNumberText (Boolean form) n text = IsValueOrNumber (Boolean form) n text
IsNumberText (Text texts) n text = IsValueOrNumber (Text texts) n text

-- The texts of numbers of a logical schema's columns.
abbrev pub logical_texts : Logical → ℕ → ℤ → Field → Type 0
logical_texts l c n text = IsNumberText (kind_of l c) n text
