-- Why a schema refuses to add a column: which refusal comes first.
use Rattle.std.specs.Prelude.{ℕ, not, ◌+ℤ◌, ℤ, pos, int_lt, List, length, Option, Some, None, is_some, option_map, nat_eq, nat_lt, nat_le, if◌then◌else◌}
use Rattle.std.specs.Option.{option_or}
use Rattle.bsi_digits.specs.Digits.{max_end}
use Rattle.bsi_digits.specs.Refusal.{refusal}
pub use Rattle.bsi_digits.specs.Refusal.{IsFirstOr}
use Rattle.bsi_digits.specs.declared.bases_error.BasesError.{BasesError}
use Rattle.bsi_digits.specs.declared.bases_error.BasesError.TheVariants.{Empty, TooMany}
use Rattle.bsi_schema.specs.declared.form.ColumnSpec.{ColumnSpec}
use Rattle.bsi_schema.specs.declared.form.ColumnSpec.TheVariants.{Slices, Equality, Range}
use Rattle.bsi_schema.specs.declared.schema_error.SchemaError.{SchemaError}
use Rattle.bsi_schema.specs.declared.schema_error.SchemaError.TheVariants.{BadName, NameTaken, TooManyColumns, BadBases, BadOffset}
use Rattle.bsi_schema.specs.Columns.{max_columns, max_slices, Declared, position_of, form_of, size_in}
use Rattle.bsi_schema.specs.Names.{is_name}

-- the first refusal of w slices
abbrev pub slices_refusal : ℕ → Option BasesError
slices_refusal w = if nat_eq w 0 then Some Empty else (if nat_lt max_slices w then Some TooMany else None)

-- the first refusal of a column specification
abbrev pub form_refusal : ColumnSpec → Option BasesError
form_refusal (Slices w) = slices_refusal w
form_refusal (Equality bases) = refusal bases.items
form_refusal (Range bases) = refusal bases.items

-- the first refusal of a name for one more column
abbrev pub name_refusal : Declared → List ℕ → Option SchemaError
name_refusal schema name =
    if not (is_name name) then Some BadName
    else (if is_some (position_of schema.columns name) then Some NameTaken
    else (if nat_le max_columns (length schema.columns) then Some TooManyColumns else None))

-- the refusal of an offset with a form
abbrev pub offset_refusal : ℤ → ColumnSpec → Option SchemaError
offset_refusal offset spec =
    if int_lt (pos max_end) (offset +ℤ pos (size_in (form_of spec))) then Some BadOffset else None

-- the first refusal of one more column
abbrev pub column_refusal : Declared → List ℕ → ColumnSpec → Option SchemaError
column_refusal schema name spec = option_or (name_refusal schema name) (option_map BadBases (form_refusal spec))

-- the first refusal of one more column with an offset
abbrev pub signed_refusal : Declared → List ℕ → ColumnSpec → ℤ → Option SchemaError
signed_refusal schema name spec offset = option_or (column_refusal schema name spec) (offset_refusal offset spec)
