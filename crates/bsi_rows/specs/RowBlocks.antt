-- What a contract sees of a block of rows (`RowBlock`), and how its rows are stored column by column (`IsBlock`).
use Rattle.std.specs.Prelude.{◌≡◌, ◌≢◌, ℕ, ◌+◌, ◌*◌, ◌^◌, ◌<◌, ◌≤◌, ◌==◌, pos, List, [], ◌∷◌, ◌++◌, All, None, Option, Some, length, map, replicate, slice_index, slice_index_or, ℤ, true, if◌then◌else◌}
use Rattle.std.specs.Int.{bit_at}
use Rattle.std.specs.List.{range_with_len}
use Rattle.std.specs.Option.{option_map}
use Rattle.bsi_digits.specs.Offsets.{number_of}
use Rattle.bsi_schema.specs.Columns.{fits, Declared, IsColumn, NamedColumn}
use Rattle.bsi_schema.specs.Limits.{limits_of}
use Rattle.bsi_schema.specs.declared.limits.Limits.{Limits}
use Rattle.bsi_rows.specs.Rows.{column_of, feeders_of, row_entries, Entries, SourcedRow}

-- the most rows of a block
abbrev pub max_block_rows : ℕ
max_block_rows = 64

-- what a contract sees of a block: the schema that its rows fit, the number of feeders, and the rows
pub record RowBlock : Type 0 where
  pub schema : Declared
  pub feeders : ℕ
  pub rows : List SourcedRow

abbrev pub no_block_rows : Declared → ℕ → RowBlock
no_block_rows schema feeders = record { schema = schema; feeders = feeders; rows = [] }

-- the same block with no row
abbrev pub emptied_block : RowBlock → RowBlock
emptied_block block = record block { rows = [] }

-- the block with one more row, the last
abbrev pub with_block_row : RowBlock → ℕ → Entries → RowBlock
with_block_row block feeder row = record block { rows = block.rows ++ (feeder, row) ∷ [] }

-- the block with `count` more rows of a feeder, the last, of nulls alone
abbrev pub with_null_rows : RowBlock → ℕ → ℕ → RowBlock
with_null_rows block feeder count =
    record block { rows = block.rows ++ replicate count (feeder, replicate (length block.schema.columns) None) }

-- the new block is the old one, except for the entries of column c
pub record HasColumn (old new : RowBlock) (c : ℕ) (entries : List (Option ℤ)) : Type 0 where
  -- the schema is unchanged
  pub schema : new.schema ≡ old.schema
  -- the number of feeders is unchanged
  pub feeders : new.feeders ≡ old.feeders
  -- the feeders of the rows are unchanged
  pub from : feeders_of new.rows ≡ feeders_of old.rows
  -- column c has the entries
  pub written : column_of new.rows c ≡ entries
  -- the other columns are unchanged
  pub others : (k : ℕ) → k ≢ c → column_of new.rows k ≡ column_of old.rows k

-- the entries of each row, without its feeder
abbrev pub entries_of : List SourcedRow → List Entries
entries_of rows = map (λ row. row_entries row) rows

-- the rows, each as a row of the feeder
abbrev pub sourced_from : ℕ → List Entries → List SourcedRow
sourced_from feeder rows = map (λ row. (feeder, row)) rows

-- the columns of two schemas accept the same numbers
abbrev pub HaveSameLimits : Declared → Declared → Type 0
HaveSameLimits first second = map limits_of first.columns ≡ map limits_of second.columns

-- the least number that column c accepts
abbrev pub least_at : List Limits → ℕ → ℤ
least_at limits c = (slice_index_or limits c (record { least = pos 0; size = 0 })).least

-- the stored number of entry r of column c, or none if bit r of the word of the column is clear
abbrev pub cell_number : List ℕ → List ℕ → ℕ → ℕ → Option ℕ
cell_number numbers not_null c r =
    if bit_at (slice_index not_null c) r == 1 then Some (slice_index numbers (max_block_rows * c + r)) else None

-- entry r of column c: the stored number and the least number of the column
abbrev pub cell_entry : List Limits → List ℕ → List ℕ → ℕ → ℕ → Option ℤ
cell_entry limits numbers not_null c r = option_map (number_of (least_at limits c)) (cell_number numbers not_null c r)

-- entry r of column c is stored as before
pub record IsSameCell (numbers not_null new_numbers new_not_null : List ℕ) (c r : ℕ) : Type 0 where
  pub number : slice_index new_numbers (max_block_rows * c + r) ≡ slice_index numbers (max_block_rows * c + r)
  pub bit : bit_at (slice_index new_not_null c) r ≡ bit_at (slice_index not_null c) r

-- entry r of column c is the given one, and no later entry is a number
pub record IsWrittenEntry (limits : List Limits) (numbers not_null : List ℕ) (c r : ℕ) (entry : Option ℤ) : Type 0 where
  pub entry_is : cell_entry limits numbers not_null c r ≡ entry
  pub null : cell_number numbers not_null c r ≡ None → slice_index numbers (max_block_rows * c + r) ≡ 0
  pub clear : slice_index not_null c < 2 ^ (r + 1)

-- value r of column c is stored: its number, or 0 for a null
pub record IsValueAt (limits : List Limits) (values : List ℤ) (not_null : ℕ) (numbers : List ℕ) (c r : ℕ) : Type 0 where
  pub number :
      bit_at not_null r ≡ 1
      → number_of (least_at limits c) (slice_index numbers (max_block_rows * c + r)) ≡ slice_index_or values r (pos 0)
  pub null : bit_at not_null r ≡ 0 → slice_index numbers (max_block_rows * c + r) ≡ 0

-- row r of `columns` columns, given the entry of each column in each row
unfoldable pub row_of_cells : ℕ → (ℕ → ℕ → Option ℤ) → ℕ → Entries
row_of_cells columns entry r = map (λ c. entry c r) (range_with_len 0 columns)

-- the rows of a block, each with its feeder from the list
unfoldable pub rows_of_cells : ℕ → List ℕ → (ℕ → ℕ → Option ℤ) → List SourcedRow
rows_of_cells columns row_feeders entry =
    map (λ r. (slice_index row_feeders r, row_of_cells columns entry r)) (range_with_len 0 (length row_feeders))

-- what a contract sees of a stored block
abbrev pub block_view : Declared → ℕ → List ℕ → List Limits → List ℕ → List ℕ → RowBlock
block_view schema feeders row_feeders limits numbers not_null = record {
  schema = schema;
  feeders = feeders;
  rows = rows_of_cells (length schema.columns) row_feeders (cell_entry limits numbers not_null);
}

-- a stored block
pub record IsBlock (columns : List NamedColumn) (limits : List Limits) (feeders : ℕ) (row_feeders numbers not_null : List ℕ) : Type 0 where
  -- the limits are those of the columns: the least number and the size of each
  pub limits_are : limits ≡ map limits_of columns
  -- each column is valid
  pub columns_are : All IsColumn columns
  -- there are at most 64 rows
  pub few : length row_feeders ≤ max_block_rows
  -- there are 64 numbers for each column
  pub long : length numbers ≡ max_block_rows * length columns
  -- a word for each column, whose bits say which entries are not null
  pub words : length not_null ≡ length columns
  -- each row came from one of the feeders
  pub from : All (λ feeder. feeder < feeders) row_feeders
  -- each row fits
  pub fitting :
      (r : ℕ) → r < length row_feeders
      → fits columns (row_of_cells (length columns) (cell_entry limits numbers not_null) r) ≡ true
  -- the stored number of a null is 0
  pub nulls :
      (c r : ℕ) → c < length columns → r < length row_feeders
      → cell_number numbers not_null c r ≡ None → slice_index numbers (max_block_rows * c + r) ≡ 0
  -- no word has a bit past the last row
  pub clear : (c : ℕ) → slice_index not_null c < 2 ^ length row_feeders
