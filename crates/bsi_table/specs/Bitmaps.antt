-- The bitmaps of a column of a table (`bitmaps_of`): the not-null bitmap, then the binary places of what is stored.
use Rattle.std.specs.Prelude.{◌≢◌, ℕ, ℤ, ◌-ℤ◌, ◌+◌, Bool, List, Option, All, length, map, unsigned_abs, IsTrue}
use Rattle.std.specs.Option.{option_map}
use Rattle.bsi_columns.specs.StoredBitmaps.{column_bitmaps, form_places}
use Rattle.bsi_schema.specs.declared.form.Form.{Form}
use Rattle.bsi_schema.specs.Columns.{column_at, is_accepted_by, Declared, Entries, NamedColumn}
use Rattle.bsi_rows.specs.Rows.{column_of, SourcedRow}
use Rattle.bsi_table.specs.Encoded.{encoded_form}

-- the stored entry: the number less the offset, or a null
abbrev pub stored_entry : ℤ → Option ℤ → Option ℕ
stored_entry offset entry = option_map (λ x. unsigned_abs (x -ℤ offset)) entry

-- the bitmaps of a column's entries
abbrev pub entries_bitmaps : NamedColumn → Entries → List (List Bool)
entries_bitmaps column entries = column_bitmaps (encoded_form column.form) (map (stored_entry column.offset) entries)

-- the bitmaps of column c of rows
abbrev pub bitmaps_of : Declared → List SourcedRow → ℕ → List (List Bool)
bitmaps_of schema rows c = entries_bitmaps (column_at schema.columns c) (column_of rows c)

-- the number of bitmaps of a column of a form
abbrev pub bitmap_count : Form → ℕ
bitmap_count form = 1 + length (form_places (encoded_form form))

-- no entries that the column accepts have the bitmaps
abbrev pub HaveNoEntries : NamedColumn → List (List Bool) → Type 0
HaveNoEntries column bitmaps =
    (entries : Entries) → All (λ entry. IsTrue (is_accepted_by column entry)) entries
    → entries_bitmaps column entries ≢ bitmaps
