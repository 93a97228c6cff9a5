-- The rows of a table, and which of them a predicate selects.
use Rattle.std.specs.Prelude.{ℕ, Bool, true, ◌&&◌, ◌||◌, not, List, [], is_none, length, filter, filter_map, map, slice_index_or, ℤ}
use Rattle.std.specs.List.{range_with_len}
use Rattle.bsi_digits.specs.WholeNumbers.{signed_relates, signed_selects}
pub use Rattle.bsi_schema.specs.Columns.{entry_at, Entries}
use Rattle.bsi_rows.specs.declared.query.Pred.{Pred, All, Compare, Columns, Null, Both', Either', Not'}

-- a row of a table: its feeder, and its entries
abbrev pub SourcedRow : Type 0
SourcedRow = ℕ × Entries

-- the feeder of a row
abbrev pub row_feeder : SourcedRow → ℕ
row_feeder row = row.0

-- the entries of a row
abbrev pub row_entries : SourcedRow → Entries
row_entries row = row.1

-- the feeders of rows
abbrev pub feeders_of : List SourcedRow → List ℕ
feeders_of rows = map (λ row. row_feeder row) rows

-- the row at position r
abbrev pub row_at : List SourcedRow → ℕ → SourcedRow
row_at rows r = slice_index_or rows r (0, [])

-- the entries of column c, in order of the rows
abbrev pub column_of : List SourcedRow → ℕ → Entries
column_of rows c = map (λ row. entry_at (row_entries row) c) rows

-- the predicate holds of a row; a comparison holds of no null
abbrev pub holds : Pred → Entries → Bool
holds All row = true
holds (Compare c op n) row = signed_selects op n (entry_at row c)
holds (Columns a op b) row = signed_relates op (entry_at row a) (entry_at row b)
holds (Null c) row = is_none (entry_at row c)
holds (Both' p first q second) row = holds first row && holds second row
holds (Either' p first q second) row = holds first row || holds second row
holds (Not' p pred) row = not (holds pred row)

-- the positions of the rows that a predicate selects, rising
abbrev pub selected : Pred → List SourcedRow → List ℕ
selected pred rows = filter (λ r. holds pred (row_entries (row_at rows r))) (range_with_len 0 (length rows))

-- the numbers of column c in the rows that a predicate selects, in order, without the nulls
abbrev pub values : ℕ → Pred → List SourcedRow → List ℤ
values c pred rows = filter_map (λ r. entry_at (row_entries (row_at rows r)) c) (selected pred rows)
