-- Why an index is not made, or refuses further rows: which refusal comes first.
use Rattle.std.specs.Prelude.{◌||◌, ℕ, ◌+◌, length, Option, Some, None, nat_eq, nat_lt, if◌then◌else◌}
use Rattle.bsi_rows.specs.declared.errors.IndexError.{IndexError}
use Rattle.bsi_rows.specs.declared.errors.IndexError.TheVariants.{NoColumns, LimitOutOfRange}
use Rattle.bsi_rows.specs.declared.errors.AppendError.{AppendError}
use Rattle.bsi_rows.specs.declared.errors.AppendError.TheVariants.{IndexFull}
use Rattle.bsi_schema.specs.Columns.{Declared}
use Rattle.bsi_rows.specs.Table.{max_rows, Table}
pub use Rattle.bsi_schema.specs.Refusals.{column_refusal, form_refusal, name_refusal, signed_refusal, IsFirstOr}

-- the first refusal of an index of a schema with a limit
abbrev pub index_refusal : Declared → ℕ → Option IndexError
index_refusal schema limit =
    if nat_eq (length schema.columns) 0 then Some NoColumns
    else (if nat_eq limit 0 || nat_lt max_rows limit then Some LimitOutOfRange else None)

-- the refusal of one more row
abbrev pub row_refusal : Table → Option AppendError
row_refusal table = if nat_eq (length table.rows) table.limit then Some IndexFull else None

-- the refusal of `more` more rows
abbrev pub rows_refusal : Table → ℕ → Option AppendError
rows_refusal table more = if nat_lt table.limit (length table.rows + more) then Some IndexFull else None
