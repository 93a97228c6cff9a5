-- The reply to a predicate (`IsSelection`): a bit for each row, or the first missing column.
use Rattle.std.specs.Prelude.{◌≡◌, List, Some, None, Result, Ok, Err, length, map}
use Rattle.bsi_bits.specs.BitList.{BitList}
use Rattle.bsi_schema.specs.Columns.{Declared}
use Rattle.bsi_rows.specs.declared.errors.AskError.{AskError}
use Rattle.bsi_rows.specs.declared.errors.AskError.TheVariants.{BadColumn, NoMemory}
use Rattle.bsi_rows.specs.declared.query.Pred.{Pred}
use Rattle.bsi_rows.specs.Answers.{columns_of_pred, missing_of}
use Rattle.bsi_rows.specs.Rows.{holds, row_entries, SourcedRow}

-- the reply to a predicate: for each row whether the predicate holds; or the first missing column; or that memory was
-- refused
abbrev pub IsSelection : Declared → List SourcedRow → Pred → Result BitList AskError → Type 0
IsSelection schema rows pred (Ok selection) =
    (missing_of (length schema.columns) (columns_of_pred pred) ≡ None) × (selection.bits ≡ map (λ row. holds pred (row_entries row)) rows)
IsSelection schema rows pred (Err (BadColumn c)) = missing_of (length schema.columns) (columns_of_pred pred) ≡ Some c
IsSelection schema rows pred (Err NoMemory) = missing_of (length schema.columns) (columns_of_pred pred) ≡ None
