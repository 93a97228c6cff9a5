-- The columns that a schema declares, and the rows that fit them.
use Rattle.std.specs.Prelude.{◌≡◌, ℕ, ◌^◌, ◌<◌, ◌≤◌, Bool, true, false, ◌&&◌, ◌||◌, List, [], ◌∷◌, ◌++◌, length, position, take, All, Option, Some, None, reverse, slice_index_or, String, string_bytes, ℤ, pos, ◌+ℤ◌, ◌≤ℤ◌, int_le, int_lt, IsTrue}
use Rattle.std.specs.Str.{bytes_eq}
use Rattle.bsi_digits.specs.Digits.{max_end, product, IsBaseList}
use Rattle.bsi_digits.specs.Signed.{least_i64}
use Rattle.bsi_schema.specs.Names.{is_name}
use Rattle.bsi_schema.specs.declared.form.ColumnSpec.{ColumnSpec}
use Rattle.bsi_schema.specs.declared.form.ColumnSpec.TheVariants.{Slices as spec_slices, Equality as spec_equality, Range as spec_range}
use Rattle.bsi_schema.specs.declared.form.Form.{Form}
use Rattle.bsi_schema.specs.declared.form.Form.TheVariants.{Slices, Equality, Range}
use Rattle.bsi_schema.specs.declared.form.Layout.{Layout}

-- the number of numbers of a column of this form
abbrev pub size_in : Form → ℕ
size_in (Slices w) = 2 ^ w
size_in (Equality bs) = product bs
size_in (Range bs) = product bs

-- the most slices of a column
abbrev pub max_slices : ℕ
max_slices = 63

-- the most columns of a schema
abbrev pub max_columns : ℕ
max_columns = 64

-- a form: 1 to 63 slices, or an accepted list of bases
abbrev pub IsForm : Form → Type 0
IsForm (Slices w) = (1 ≤ w) × (w ≤ max_slices)
IsForm (Equality bs) = IsBaseList bs
IsForm (Range bs) = IsBaseList bs

-- the form of a column specification, with the bases least significant first
abbrev pub form_of : ColumnSpec → Form
form_of (spec_slices w) = Slices w
form_of (spec_equality bases) = Equality (reverse bases.items)
form_of (spec_range bases) = Range (reverse bases.items)

-- a declared column: its name, its form and the least number that the column accepts
pub record NamedColumn : Type 0 where
  pub name : List ℕ
  pub form : Form
  pub offset : ℤ

abbrev pub named_column : List ℕ → Form → ℤ → NamedColumn
named_column name form offset = record { name = name; form = form; offset = offset }

-- what a contract sees of a schema: its columns in order, and whether a column was declared with an offset
pub record Declared : Type 0 where
  pub columns : List NamedColumn
  pub signed : Bool

abbrev pub no_columns : Declared
no_columns = record { columns = []; signed = false }

-- the schema with one more column, the last
abbrev pub with_column : Declared → NamedColumn → Bool → Declared
with_column schema column signed = record { columns = schema.columns ++ column ∷ []; signed = schema.signed || signed }

-- the column that is read past the end of a list of columns
abbrev pub no_column : NamedColumn
no_column = named_column [] (Slices 0) (pos 0)

abbrev pub column_at : List NamedColumn → ℕ → NamedColumn
column_at columns c = slice_index_or columns c no_column

-- the index of the column of this name
abbrev pub position_of : List NamedColumn → List ℕ → Option ℕ
position_of columns name = position (λ column. bytes_eq name column.name) columns

-- a valid column: its form is valid, and each of its numbers has 64 bits
pub record IsColumn (column : NamedColumn) : Type 0 where
  pub form : IsForm column.form
  pub low : least_i64 ≤ℤ column.offset
  pub below : (column.offset +ℤ pos (size_in column.form)) ≤ℤ pos max_end

-- each column has a valid name
abbrev pub AreNamed : List NamedColumn → Type 0
AreNamed columns = All (λ column. IsTrue (is_name column.name)) columns

-- a valid list of columns
pub record IsSchema (columns : List NamedColumn) : Type 0 where
  pub few : length columns ≤ max_columns
  pub named : AreNamed columns
  pub each : All IsColumn columns

-- a column that may be declared after others
pub record MayFollow (columns : List NamedColumn) (signed : Bool) (column : NamedColumn) : Type 0 where
  -- fewer than 64 columns are before the new one
  pub few : length columns < max_columns
  -- the name is valid
  pub name : IsTrue (is_name column.name)
  -- no other column has the name
  pub fresh : position_of columns column.name ≡ None
  -- the form is valid, and each number of the column has 64 bits
  pub valid : IsColumn column
  -- if no column has an offset, the numbers begin at 0
  pub from_zero : signed ≡ false → column.offset ≡ pos 0

-- a declared schema: each column may follow those before
pub record IsDeclared (schema : Declared) : Type 0 where
  pub each : (c : ℕ) → c < length schema.columns → MayFollow (take c schema.columns) schema.signed (column_at schema.columns c)
  pub some : schema.signed ≡ true → 0 < length schema.columns

-- the name of an item of a map of columns
abbrev pub mapped_name : {Z : Type 0} → String Z × Layout → List ℕ
mapped_name mapped = string_bytes mapped.0

-- the form and offset of an item
abbrev pub mapped_layout : {Z : Type 0} → String Z × Layout → Layout
mapped_layout mapped = mapped.1

-- an item as a declared column
abbrev pub named : {Z : Type 0} → String Z × Layout → NamedColumn
named mapped = named_column (mapped_name mapped) (mapped_layout mapped).form (mapped_layout mapped).offset

-- the entries of a row, one for each column
abbrev pub Entries : Type 0
Entries = List (Option ℤ)

-- the entry of column c
abbrev pub entry_at : Entries → ℕ → Option ℤ
entry_at row c = slice_index_or row c None

-- the entry is a null, or a number from the least on and below the sum of least and size
abbrev pub is_between : ℤ → ℕ → Option ℤ → Bool
is_between least size None = true
is_between least size (Some x) = int_le least x && int_lt x (least +ℤ pos size)

-- the column accepts the entry: a null, or a number from the offset on and below the sum of offset and size
abbrev pub is_accepted_by : NamedColumn → Option ℤ → Bool
is_accepted_by column entry = is_between column.offset (size_in column.form) entry

-- a row fits: there is one entry for each column, and the column accepts the entry
abbrev pub fits : List NamedColumn → Entries → Bool
fits [] [] = true
fits [] (entry ∷ row) = false
fits (column ∷ columns) [] = false
fits (column ∷ columns) (entry ∷ row) = is_accepted_by column entry && fits columns row
