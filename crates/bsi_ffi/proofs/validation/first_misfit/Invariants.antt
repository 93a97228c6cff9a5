use Rattle.std.proofs.Common.{◌≡◌, ℕ, ◌<◌, ◌≤◌, true}
use Rattle.bsi_schema.specs.Columns.{column_at, is_accepted_by}
use Rattle.bsi_rows.specs.Rows.{entry_at}
use Rattle.bsi_ffi.specs.Columns.{row_of, IsFirstRefusing}
use Rattle.bsi_ffi.proofs.validation.first_misfit.Given as goal

-- the columns so far take each row before the misfit, and its column is the first of them that does not take its row, if that is one
abbrev pub invariant-columns : goal.invariant-columns
invariant-columns l = record {
  within : l.misfit.row ≤ l.rows;
  accepted : (k : ℕ) → k < l.c → (r : ℕ) → r < l.misfit.row → is_accepted_by (column_at l.schema.columns k) (entry_at (row_of l.columns r) k) ≡ true;
  before : l.misfit.row < l.rows → l.misfit.column < l.c;
  none : l.misfit.row ≡ l.rows → l.misfit.column ≡ 0;
  refused : l.misfit.row < l.rows → IsFirstRefusing l.schema.columns (row_of l.columns l.misfit.row) l.misfit.column;
}
