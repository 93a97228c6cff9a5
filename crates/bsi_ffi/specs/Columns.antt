-- Rows that are given as columns: numbers, and a bitmap that says which of them are there.
use Rattle.std.specs.Prelude.{◌≡◌, ℕ, ◌+◌, ◌/◌, ◌%◌, ◌^◌, ◌<◌, ◌==◌, ◌||◌, ◌&&◌, nat_eq, nat_le, Bool, true, false, List, [], ◌∷◌, length, map, Option, Some, None, slice_index, slice_index_or, take, ℤ, pos, if◌then◌else◌}
use Rattle.std.specs.Int.{bit_at}
use Rattle.std.specs.List.{list_all, prefix_len, range_with_len}
use Rattle.bsi_ffi.specs.declared.columns.ColumnInput.{ColumnInput}
use Rattle.bsi_schema.specs.Columns.{column_at, fits, is_accepted_by, NamedColumn}
use Rattle.bsi_rows.specs.Rows.{entry_at, Entries, SourcedRow}

-- Bit r of a bitmap, the lowest bit of a byte first. A bitmap of no bytes has each bit.
abbrev pub is_valid : List ℕ → ℕ → Bool
is_valid valid r = nat_eq (length valid) 0 || (bit_at (slice_index valid (r / 8)) (r % 8) == 1)

-- The word says which of `count` entries are not null: bit r is that of entry from + r.
pub record IsNotNullWord (valid : List ℕ) (from count word : ℕ) : Type 0 where
  pub there : (r : ℕ) → r < count → (bit_at word r == 1) ≡ is_valid valid (from + r)
  pub clear : word < 2 ^ count

-- The column has `rows` numbers, and a bit for each.
abbrev pub has_rows : ℕ → ColumnInput → Bool
has_rows rows column =
    nat_eq (length column.values.now) rows
    && (nat_eq (length column.valid.now) 0 || nat_le ((rows + 7) / 8) (length column.valid.now))

-- The number of rows of the columns.
abbrev pub row_count : List ColumnInput → ℕ
row_count [] = 0
row_count (first ∷ rest) = length first.values.now

-- There are `count` columns, all of one length, with a bit for each number.
abbrev pub are_columns : ℕ → List ColumnInput → Bool
are_columns count columns = nat_eq (length columns) count && list_all (has_rows (row_count columns)) columns

-- The first column that an index of `count` columns refuses: one that is missing, too much, or of another length than
-- the first.
abbrev pub first_unlike : ℕ → List ColumnInput → ℕ
first_unlike count columns = prefix_len (has_rows (row_count columns)) (take count columns)

-- The entry of row r.
abbrev pub input_entry : ℕ → ColumnInput → Option ℤ
input_entry r column =
    if is_valid column.valid.now r then Some (slice_index_or column.values.now r (pos 0)) else None

-- Row r.
abbrev pub row_of : List ColumnInput → ℕ → Entries
row_of columns r = map (input_entry r) columns

-- The `count` rows from row `from` on, of a feeder.
unfoldable pub input_rows : ℕ → List ColumnInput → ℕ → ℕ → List SourcedRow
input_rows feeder columns from count = map (λ r. (feeder, row_of columns r)) (range_with_len from count)

-- Each of the first n rows fits.
abbrev pub AreAccepted : List NamedColumn → List ColumnInput → ℕ → Type 0
AreAccepted declared columns n = (r : ℕ) → r < n → fits declared (row_of columns r) ≡ true

-- Row r is the first that does not fit.
pub record IsFirstMisfit (declared : List NamedColumn) (columns : List ColumnInput) (r : ℕ) : Type 0 where
  pub within : r < row_count columns
  pub before : AreAccepted declared columns r
  pub misfit : fits declared (row_of columns r) ≡ false

-- Column c is the first that refuses its entry of the row.
pub record IsFirstRefusing (declared : List NamedColumn) (row : Entries) (c : ℕ) : Type 0 where
  pub before : (k : ℕ) → k < c → is_accepted_by (column_at declared k) (entry_at row k) ≡ true
  pub refuses : is_accepted_by (column_at declared c) (entry_at row c) ≡ false
