-- Which numbers, entries of rows, bases, feeders and offsets the bytes of fields spell.
use Rattle.std.specs.Prelude.{ℕ, Bool, ◌&&◌, ◌==◌, nat_lt, nat_le, min, if◌then◌else◌, List, [], ◌∷◌, length, Option, Some, None, option_map, option_and_then, ℤ, pos, neg_ℤ, int_le, int_lt}
use Rattle.std.specs.Char.{is_ascii_digit}
use Rattle.std.specs.List.{list_all, slice_split}
use Rattle.std.specs.Str.Parse.{digits_value}
use Rattle.bsi_rows.specs.Fields.{Field}
use Rattle.bsi_bits.specs.Packed.{end_of_u64}
use Rattle.bsi_digits.specs.Signed.{end_of_i64, least_i64}
use Rattle.bsi_schema.specs.Columns.{is_between}
use Rattle.bsi_schema.specs.declared.limits.Limits.{Limits}
use Rattle.bsi_syntax.specs.Bytes.{KnownBytes}

-- The most digits of a number.
abbrev pub max_digits : ℕ
max_digits = 20

-- One to twenty digits, whose value is below 2^64.
abbrev pub is_number : Field → Bool
is_number text =
    nat_lt 0 (length text) && nat_le (length text) max_digits && list_all is_ascii_digit text
    && nat_lt (digits_value 10 text) end_of_u64

-- The number that a text spells.
abbrev pub spelled_number : Field → Option ℕ
spelled_number text = if is_number text then Some (digits_value 10 text) else None

-- The whole number that a text spells: a number, after at most one minus sign.
abbrev pub signed_of : Field → Option ℤ
signed_of [] = None
signed_of (first ∷ rest) =
    if first == 45 then option_map (λ n. neg_ℤ (pos n)) (spelled_number rest)
    else option_map pos (spelled_number (first ∷ rest))

-- The number that a text spells. A minus sign is allowed only if numbers are signed.
abbrev pub spelled_integer : Bool → Field → Option ℤ
spelled_integer signed text = if signed then signed_of text else option_map pos (spelled_number text)

-- A value: a number, or the empty text for a null.
abbrev pub value_in : Bool → Field → Option (Option ℤ)
value_in signed text = if length text == 0 then Some None else option_map (λ n. Some n) (spelled_integer signed text)

-- The values of fields, or none if some field is no value.
unfoldable pub values_in : Bool → List Field → Option (List (Option ℤ))
values_in signed [] = Some []
values_in signed (field ∷ fields) =
    option_and_then (λ value. option_map (λ values. value ∷ values) (values_in signed fields)) (value_in signed field)

-- A value that a column accepts, by its limits, or none.
abbrev pub entry_in : Bool → Limits → Field → Option (Option ℤ)
entry_in signed limits text =
    option_and_then (λ entry. if is_between limits.least limits.size entry then Some entry else None) (value_in signed text)

-- The number from `least` to `most` that a text spells.
abbrev pub number_between : ℕ → ℕ → Field → Option ℕ
number_between least most text =
    option_and_then (λ n. if nat_le least n && nat_le n most then Some n else None) (spelled_number text)

-- The greatest number of 32 bits.
abbrev pub max_u32 : ℕ
max_u32 = 4294967295

-- The number of 32 bits that a text spells.
abbrev pub u32_of : Field → Option ℕ
u32_of text = number_between 0 max_u32 text

-- The numbers of 32 bits that fields spell, or none if some field spells no such number.
unfoldable pub u32s_of : List Field → KnownBytes
u32s_of [] = Some []
u32s_of (field ∷ fields) =
    option_and_then (λ n. option_map (λ numbers. n ∷ numbers) (u32s_of fields)) (u32_of field)

-- A list of bases: numbers with one space between two.
abbrev pub bases_of : Field → KnownBytes
bases_of text = u32s_of (slice_split (λ byte. byte == 32) text)

-- The number of a feeder. A number of more than 32 bits becomes the greatest of 32 bits.
abbrev pub feeder_of : Field → Option ℕ
feeder_of text = option_map (λ n. min n max_u32) (spelled_number text)

-- The offset of a column: a whole number of 64 bits.
abbrev pub offset_of : Field → Option ℤ
offset_of text =
    option_and_then (λ x. if int_le least_i64 x && int_lt x (pos end_of_i64) then Some x else None)
    (signed_of text)
