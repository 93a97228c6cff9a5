-- What a record says of a logical schema: the schema after it, or why the record is refused.
use Rattle.std.specs.Prelude.{◌≡◌, ℕ, Bool, true, false, not, ◌&&◌, ◌||◌, ◌==◌, if◌then◌else◌, List, [], ◌∷◌, ◌++◌, length, get_or, slice_set, Option, Some, None, option_map, option_and_then, Result, Ok, Err, codes}
use Rattle.std.specs.Char.{is_ascii_digit}
use Rattle.std.specs.Option.{is_some}
use Rattle.std.specs.Str.{bytes_eq}
use Rattle.bsi_schema.specs.Columns.{position_of}
use Rattle.bsi_rows.specs.Fields.{Field}
use Rattle.bsi_kinds.specs.Dictionaries.{may_follow}
use Rattle.bsi_kinds.specs.declared.date.DateForm.{DateForm}
use Rattle.bsi_kinds.specs.declared.date.DateOrder.{DateOrder}
use Rattle.bsi_kinds.specs.declared.date.DateOrder.TheVariants.{YearFirst, DayFirst, MonthFirst}
use Rattle.bsi_kinds.specs.declared.kind.Kind.{Kind}
use Rattle.bsi_kinds.specs.declared.kind.Kind.TheVariants.{Boolean, Date, Decimal, Rounded, Text, Time}
use Rattle.bsi_kinds.specs.declared.time.TimeForm.{TimeForm}
use Rattle.bsi_kinds.specs.declared.time.TimeUnit.{TimeUnit}
use Rattle.bsi_kinds.specs.declared.time.TimeUnit.TheVariants.{Seconds, Milliseconds, Microseconds}
use Rattle.bsi_syntax.specs.Numbers.{number_between}
use Rattle.bsi_syntax.specs.Setups.{declared_table, table_after}
use Rattle.bsi_syntax.specs.declared.setups.DeclaredTable.{DeclaredTable}
use Rattle.bsi_logical.specs.Dialects.{dialect, is_dialect, is_usual}
use Rattle.bsi_kinds.specs.Nulls.{is_null_word}
use Rattle.bsi_logical.specs.Entries.{iso_date}
use Rattle.bsi_logical.specs.Logical.{column_called, kind_of, name_of, title_of, Logical}
use Rattle.bsi_logical.specs.declared.dialect.Dialect.{Dialect}
use Rattle.bsi_logical.specs.declared.logical.declaring.Word.{Word}
use Rattle.bsi_logical.specs.declared.logical.declaring.Word.TheVariants.{Column, Limit, Dialect as Dialect', Null, Title, Kind as Kind', Text as Text'}
use Rattle.bsi_logical.specs.declared.refusal.DeclareError.{DeclareError}
use Rattle.bsi_logical.specs.declared.refusal.DeclareError.TheVariants.{NoMemory, Refused}
use Rattle.bsi_logical.specs.declared.refusal.Refusal.{Refusal}
use Rattle.bsi_logical.specs.declared.refusal.Refusal.TheVariants.{BadDialect, BadKind, BadNull, BadTable, BadText, BadTitle, DialectDeclared, KindDeclared, NameTaken, NoColumn, NoTexts, NullDeclared, TitleDeclared, TitleTaken, UnknownWord}

-- The schema after a record, or why the record is refused.
abbrev pub Said : Type 0
Said = Result Logical Refusal

-- ---- a column, and the limit

-- The columns and the limit of a logical schema, which `column` and `limit` declare.
abbrev pub logical_table : Logical → DeclaredTable
logical_table l = declared_table l.schema l.limit

abbrev pub with_limit : Logical → DeclaredTable → Logical
with_limit l table = record l { schema = table.schema; limit = table.limit }

-- One more column, of whole numbers, whose title is its name.
abbrev pub with_plain_column : Logical → Field → DeclaredTable → Logical
with_plain_column l name table = record l {
  schema = table.schema;
  limit = table.limit;
  titles = l.titles ++ name ∷ [];
  kinds = l.kinds ++ Decimal 0 ∷ [];
}

abbrev pub after_table : (DeclaredTable → Logical) → Option DeclaredTable → Said
after_table with None = Err BadTable
after_table with (Some table) = Ok (with table)

abbrev pub column_said : Logical → List Field → Said
column_said l fields =
    if is_some (column_called l (get_or fields 1 [])) then Err NameTaken
    else after_table (with_plain_column l (get_or fields 1 [])) (table_after (logical_table l) fields)

abbrev pub limit_said : Logical → List Field → Said
limit_said l fields = after_table (with_limit l) (table_after (logical_table l) fields)

-- ---- how row files are written

-- The only byte of a field.
abbrev pub byte_of : Field → Option ℕ
byte_of [] = None
byte_of (byte ∷ []) = Some byte
byte_of (byte ∷ another ∷ rest) = None

-- `DELIMITER,POINT`: the dialect of a record `dialect`.
abbrev pub dialect_of : List Field → Option Dialect
dialect_of (delimiter ∷ point ∷ []) =
    option_and_then (λ d. option_map (dialect d) (byte_of point)) (byte_of delimiter)
dialect_of fields = None

abbrev pub dialect_given : Logical → Dialect → Said
dialect_given l d =
    if not (is_usual l.dialect) then Err DialectDeclared
    else (if is_dialect d && not (is_usual d) then Ok (record l { dialect = d }) else Err BadDialect)

abbrev pub dialect_read : Logical → Option Dialect → Said
dialect_read l None = Err BadDialect
dialect_read l (Some d) = dialect_given l d

abbrev pub dialect_said : Logical → List Field → Said
dialect_said l fields = dialect_read l (dialect_of fields)

-- `WORD`: one more null word.
abbrev pub null_given : Logical → Field → Said
null_given l word =
    if (length word == 0) || is_null_word l.nulls word then Err NullDeclared
    else Ok (record l { nulls = l.nulls ++ word ∷ [] })

abbrev pub null_said : Logical → List Field → Said
null_said l (word ∷ []) = null_given l word
null_said l fields = Err BadNull

-- ---- a title

-- The fields of a record that has two.
abbrev pub pair_of : List Field → Option (Field × Field)
pair_of (first ∷ second ∷ []) = Some (first, second)
pair_of fields = None

abbrev pub by_pair : Refusal → (Field → Field → Said) → Option (Field × Field) → Said
by_pair why said None = Err why
by_pair why said (Some pair) = said pair.0 pair.1

-- What a record says of a column, if the column exists.
abbrev pub of_column : (ℕ → Said) → Option ℕ → Said
of_column said None = Err NoColumn
of_column said (Some c) = said c

abbrev pub with_title : Logical → ℕ → Field → Logical
with_title l c title = record l { titles = slice_set l.titles c title }

-- A title in place of the name. No column is called by it yet.
abbrev pub title_given : Logical → ℕ → Field → Said
title_given l c title =
    if not (bytes_eq (title_of l c) (name_of l c)) then Err TitleDeclared
    else (if is_some (column_called l title) then Err TitleTaken else Ok (with_title l c title))

-- `NAME,TITLE`
abbrev pub title_said : Logical → List Field → Said
title_said l fields =
    by_pair BadTitle (λ name title. of_column (λ c. title_given l c title) (position_of l.schema.columns name)) (pair_of fields)

-- ---- a kind

-- The order of the numbers of a date, and the sign between two numbers: one byte that is no digit.
abbrev pub order_of : Field → Option DateOrder
order_of word =
    if bytes_eq word (codes "ymd") then Some YearFirst
    else (if bytes_eq word (codes "dmy") then Some DayFirst
    else (if bytes_eq word (codes "mdy") then Some MonthFirst else None))

abbrev pub date_sign_of : Field → Option ℕ
date_sign_of text = option_and_then (λ byte. if is_ascii_digit byte then None else Some byte) (byte_of text)

abbrev pub date_form : Field → Field → Option DateForm
date_form order sign =
    option_and_then (λ o. option_map (λ s. record { order = o; sign = s }) (date_sign_of sign)) (order_of order)

-- The unit of times.
abbrev pub unit_of : Field → Option TimeUnit
unit_of word =
    if bytes_eq word (codes "s") then Some Seconds
    else (if bytes_eq word (codes "ms") then Some Milliseconds
    else (if bytes_eq word (codes "us") then Some Microseconds else None))

-- Whether times are in UTC.
abbrev pub utc_of : Field → Option Bool
utc_of word =
    if bytes_eq word (codes "utc") then Some true else (if bytes_eq word (codes "local") then Some false else None)

abbrev pub time_form : Field → Field → Option DateForm → Option TimeForm
time_form unit zone date =
    option_and_then (λ d. option_and_then (λ u. option_map (λ z. record { date = d; unit = u; utc = z }) (utc_of zone))
    (unit_of unit)) date

-- Booleans of two words, which differ.
abbrev pub boolean_kind : Field → Field → Option Kind
boolean_kind first second =
    if bytes_eq first second then None else Some (Boolean (record { no = second; yes = first }))

-- The most places of a decimal.
abbrev pub max_decimal_places : ℕ
max_decimal_places = 18

-- `PLACES,rounded`: decimals that are rounded to so many places, or to whole numbers.
abbrev pub rounded_kind : Field → Field → Option Kind
rounded_kind places word =
    if bytes_eq word (codes "rounded") then option_map Rounded (number_between 0 max_decimal_places places) else None

-- The kind of a word and two more: `date,ORDER,SIGN`; `boolean,YES,NO`; `time,UNIT,ZONE`; or `decimal,PLACES,rounded`.
unfoldable pub short_kind : Field → Field → Field → Option Kind
short_kind word first second =
    if bytes_eq word (codes "decimal") then rounded_kind first second
    else (if bytes_eq word (codes "date") then option_map Date (date_form first second)
    else (if bytes_eq word (codes "boolean") then boolean_kind first second
    else (if bytes_eq word (codes "time") then option_map Time (time_form first second (Some iso_date)) else None)))

-- The kind that fields spell: `text`; `decimal,PLACES`, 1 to 18; `decimal,PLACES,rounded`, 0 to 18; `date,ORDER,SIGN`;
-- `boolean,YES,NO`; `time,UNIT,ZONE`, for dates as 2026-01-31; or `time,UNIT,ZONE,ORDER,SIGN`.
abbrev pub kind_in : List Field → Option Kind
kind_in (word ∷ []) = if bytes_eq word (codes "text") then Some (Text []) else None
kind_in (word ∷ places ∷ []) =
    if bytes_eq word (codes "decimal") then option_map Decimal (number_between 1 max_decimal_places places) else None
kind_in (word ∷ first ∷ second ∷ []) = short_kind word first second
kind_in (word ∷ unit ∷ zone ∷ order ∷ sign ∷ []) =
    if bytes_eq word (codes "time") then option_map Time (time_form unit zone (date_form order sign)) else None
kind_in words = None

-- Whole numbers: the kind of a column before another is declared.
abbrev pub is_of_whole_numbers : Kind → Bool
is_of_whole_numbers (Decimal places) = places == 0
is_of_whole_numbers (Rounded places) = false
is_of_whole_numbers (Date form) = false
is_of_whole_numbers (Time form) = false
is_of_whole_numbers (Boolean form) = false
is_of_whole_numbers (Text texts) = false

abbrev pub with_kind : Logical → ℕ → Kind → Logical
with_kind l c kind = record l { kinds = slice_set l.kinds c kind }

abbrev pub kind_given : Logical → ℕ → Kind → Said
kind_given l c kind = if is_of_whole_numbers (kind_of l c) then Ok (with_kind l c kind) else Err KindDeclared

abbrev pub kind_read : Logical → Option Kind → ℕ → Said
kind_read l None c = Err BadKind
kind_read l (Some kind) c = kind_given l c kind

-- `NAME,KIND`
abbrev pub kind_said : Logical → List Field → Said
kind_said l [] = Err BadKind
kind_said l (name ∷ words) = of_column (kind_read l (kind_in words)) (position_of l.schema.columns name)

-- ---- a text

-- A kind with one more text, which comes after the others.
abbrev pub text_added : Kind → Field → Result Kind Refusal
text_added (Text texts) text = if may_follow texts text then Ok (Text (texts ++ text ∷ [])) else Err BadText
text_added kind text = Err NoTexts

abbrev pub kind_after : Logical → ℕ → Result Kind Refusal → Said
kind_after l c (Ok kind) = Ok (with_kind l c kind)
kind_after l c (Err why) = Err why

abbrev pub text_given : Logical → ℕ → Field → Said
text_given l c text = kind_after l c (text_added (kind_of l c) text)

-- `NAME,TEXT`
abbrev pub text_said : Logical → List Field → Said
text_said l fields =
    by_pair NoTexts (λ name text. of_column (λ c. text_given l c text) (position_of l.schema.columns name)) (pair_of fields)

-- ---- a record

abbrev pub word_of : Field → Option Word
word_of word =
    if bytes_eq word (codes "column") then Some Column
    else (if bytes_eq word (codes "limit") then Some Limit
    else (if bytes_eq word (codes "dialect") then Some Dialect'
    else (if bytes_eq word (codes "null") then Some Null
    else (if bytes_eq word (codes "title") then Some Title
    else (if bytes_eq word (codes "kind") then Some Kind'
    else (if bytes_eq word (codes "text") then Some Text' else None))))))

-- What a record says, by its word, all its fields, and the fields after the word.
abbrev pub said_by : Logical → Option Word → List Field → List Field → Said
said_by l (Some Column) whole fields = column_said l whole
said_by l (Some Limit) whole fields = limit_said l whole
said_by l (Some Dialect') whole fields = dialect_said l fields
said_by l (Some Null) whole fields = null_said l fields
said_by l (Some Title) whole fields = title_said l fields
said_by l (Some Kind') whole fields = kind_said l fields
said_by l (Some Text') whole fields = text_said l fields
said_by l None whole fields = Err UnknownWord

abbrev pub record_said : Logical → List Field → Said
record_said l [] = Err UnknownWord
record_said l (word ∷ fields) = said_by l (word_of word) (word ∷ fields) fields

-- A call does what a record says. If the record or memory is refused, nothing changes.
abbrev pub Does : {T : Type 0} → Result T Refusal → T → T → Result (Unit {0}) DeclareError → Type 0
Does said old new (Ok done) = said ≡ Ok new
Does said old new (Err (Refused why)) = (said ≡ Err why) × (new ≡ old)
Does said old new (Err NoMemory) = new ≡ old
