-- When encoded columns are those of a table (`IsTable`), which rows they accept, and how an append changes them.
use Rattle.std.specs.Prelude.{◌≡◌, ℕ, ◌+◌, ◌<◌, ◌≤◌, List, [], ◌∷◌, ◌++◌, Option, None, All, length, map, slice_index, slice_index_or, ℤ, pos, ◌+ℤ◌, ◌≤ℤ◌}
use Rattle.std.specs.List.{range_with_len}
use Rattle.bsi_digits.specs.Offsets.{IsInRange}
use Rattle.bsi_digits.specs.Digits.{max_end}
use Rattle.bsi_digits.specs.Signed.{least_i64, IsI64}
use Rattle.bsi_columns.specs.declared.any.AnyColumn.{AnyColumn}
use Rattle.bsi_columns.specs.declared.any.AnyColumn.TheVariants.{Slices as encoded_slices}
use Rattle.bsi_columns.specs.AnyColumns.{any_form, equality_under, range_under, slices_of, AnyForm}
use Rattle.bsi_shift.specs.Shifted.{shifted_entries, shifted_room, shifted_size, IsAlike, OffsetColumn}
use Rattle.bsi_schema.specs.declared.form.Form.{Form}
use Rattle.bsi_schema.specs.declared.form.Form.TheVariants.{Slices, Equality, Range}
use Rattle.bsi_schema.specs.Columns.{column_at, entry_at, size_in, Entries, NamedColumn}
use Rattle.bsi_rows.specs.Rows.{column_of, SourcedRow}
use Rattle.bsi_rows.specs.Table.{max_feeders, max_rows}

-- the encoding of a column of a form
abbrev pub encoded_form : Form → AnyForm
encoded_form (Slices w) = slices_of w
encoded_form (Equality bs) = equality_under bs
encoded_form (Range bs) = range_under bs

-- the column is encoded in the form
abbrev pub IsInForm : Form → AnyColumn → Type 0
IsInForm form column = any_form column ≡ encoded_form form

-- the column that is read past the end of a list of encoded columns
abbrev pub no_entries : OffsetColumn
no_entries = record { stored = encoded_slices (record { width = 0; entries = []; room = 0 }); offset = pos 0 }

-- column c
abbrev pub encoded_at : List OffsetColumn → ℕ → OffsetColumn
encoded_at encoded c = slice_index_or encoded c no_entries

-- the entries of row r
abbrev pub row_in : List OffsetColumn → ℕ → Entries
row_in encoded r = map (λ column. slice_index_or (shifted_entries column) r None) encoded

-- the first n rows of encoded columns
unfoldable pub rows_in : List OffsetColumn → ℕ → List Entries
rows_in encoded n = map (row_in encoded) (range_with_len 0 n)

-- the rows of encoded columns, each with its feeder from the list
unfoldable pub sourced_rows : List ℕ → List OffsetColumn → List SourcedRow
sourced_rows row_feeders encoded = map (λ r. (slice_index row_feeders r, row_in encoded r)) (range_with_len 0 (length row_feeders))

-- the encoding of a column of a schema, with n rows
pub record Encodes (column : NamedColumn) (encoded : OffsetColumn) (n : ℕ) : Type 0 where
  -- the column is stored in its declared form
  pub form : IsInForm column.form encoded.stored
  -- the offset is the declared one
  pub offset : encoded.offset ≡ column.offset
  -- there are n entries
  pub rows : length (shifted_entries encoded) ≡ n
  -- the least number of the column has 64 bits
  pub low : least_i64 ≤ℤ column.offset
  -- the greatest number of the column has 64 bits
  pub high : (column.offset +ℤ pos (size_in column.form)) ≤ℤ pos max_end
  -- the column accepts each entry
  pub range : All (IsInRange encoded.offset (shifted_size encoded)) (shifted_entries encoded)

-- the encodings of all columns of a schema, with n rows
pub record AreEncoded (columns : List NamedColumn) (encoded : List OffsetColumn) (n : ℕ) : Type 0 where
  pub long : length encoded ≡ length columns
  pub each : (c : ℕ) → c < length columns → Encodes (column_at columns c) (encoded_at encoded c) n

-- a table: the encoded columns of its rows, and the feeder of each row
pub record IsTable (columns : List NamedColumn) (feeders limit : ℕ) (row_feeders : List ℕ) (encoded : List OffsetColumn)
    : Type 0 where
  -- each column is encoded as it is declared, with an entry for each row
  pub columns_are : AreEncoded columns encoded (length row_feeders)
  -- there is at least one column
  pub some : 0 < length columns
  -- there are at most 64 feeders
  pub few : feeders ≤ max_feeders
  -- each row came from one of the feeders
  pub from : All (λ feeder. feeder < feeders) row_feeders
  -- no more rows than the limit
  pub within : length row_feeders ≤ limit
  -- the limit is at least 1
  pub least : 1 ≤ limit
  -- the limit is at most 2^32
  pub small : limit ≤ max_rows

-- two columns have the same entries, offset and form
pub record IsSameColumn (old new : OffsetColumn) : Type 0 where
  pub entries : shifted_entries new ≡ shifted_entries old
  pub alike : IsAlike old new

-- the new column is the old one with the added entries; the room is no less, except for the added entries
pub record HasMore (old new : OffsetColumn) (added : Entries) : Type 0 where
  pub entries : shifted_entries new ≡ shifted_entries old ++ added
  pub alike : IsAlike old new
  pub room : shifted_room old ≤ shifted_room new + length added

-- the new column is the old one with one more entry
abbrev pub HasOneMore : OffsetColumn → OffsetColumn → Option ℤ → Type 0
HasOneMore old new entry = HasMore old new (entry ∷ [])

-- each column has n rows
abbrev pub HaveRows : List OffsetColumn → ℕ → Type 0
HaveRows encoded n = (k : ℕ) → k < length encoded → length (shifted_entries (encoded_at encoded k)) ≡ n

-- each of the first n columns has room for `more` more entries
abbrev pub HaveRoom : List OffsetColumn → ℕ → ℕ → Type 0
HaveRoom encoded n more = (k : ℕ) → k < n → more ≤ shifted_room (encoded_at encoded k)

-- each column accepts its entry of a row
abbrev pub AreInRange : List OffsetColumn → Entries → Type 0
AreInRange encoded row =
    (k : ℕ) → k < length encoded → IsInRange (encoded_at encoded k).offset (shifted_size (encoded_at encoded k)) (entry_at row k)

-- each column's entry of a row is a null or a number of 64 bits
abbrev pub AreI64 : List OffsetColumn → Entries → Type 0
AreI64 encoded row = (k : ℕ) → k < length encoded → IsI64 (entry_at row k)

-- encoded columns accept a row: there is an entry for each column, and each column accepts its entry
pub record AcceptsRow (encoded : List OffsetColumn) (row : Entries) : Type 0 where
  pub wide : length row ≡ length encoded
  pub range : AreInRange encoded row
  pub small : AreI64 encoded row

-- each column has the same entries, offset and form as before
abbrev pub AreSameColumns : List OffsetColumn → List OffsetColumn → Type 0
AreSameColumns old new = (k : ℕ) → k < length old → IsSameColumn (encoded_at old k) (encoded_at new k)

-- each column has the offset and the form of the one in the other list
abbrev pub AreAlikeColumns : List OffsetColumn → List OffsetColumn → Type 0
AreAlikeColumns encoded others = (k : ℕ) → k < length encoded → IsAlike (encoded_at encoded k) (encoded_at others k)

-- each column has one more entry, that of the row
abbrev pub HaveOneMore : List OffsetColumn → List OffsetColumn → Entries → Type 0
HaveOneMore old new row = (k : ℕ) → k < length old → HasOneMore (encoded_at old k) (encoded_at new k) (entry_at row k)

-- each column has more entries, those of the added rows
abbrev pub HaveMore : List OffsetColumn → List OffsetColumn → List SourcedRow → Type 0
HaveMore old new rows = (k : ℕ) → k < length old → HasMore (encoded_at old k) (encoded_at new k) (column_of rows k)
