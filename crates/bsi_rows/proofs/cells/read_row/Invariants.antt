use Rattle.std.proofs.Common.{◌≡◌, ℕ, ◌<◌, ◌≤◌, None, get_or, length}
use Rattle.std.specs.Prelude.{vec_capacity}
use Rattle.bsi_rows.specs.RowBlocks.{cell_entry}
use Rattle.bsi_rows.proofs.cells.read_row.Given as goal

-- the entries of the columns so far are read
abbrev pub invariant-columns : goal.invariant-columns
invariant-columns l = record {
  room : length l.limits ≤ vec_capacity l.entries;
  long : length l.entries.items ≡ l.c;
  row : (k : ℕ) → k < l.c → get_or l.entries.items k None ≡ cell_entry l.limits l.numbers l.not_null k l.r;
}
