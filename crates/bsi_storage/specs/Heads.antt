-- The head of a segment of version 2 (`head`), which says what its rows are, and for each column its zone and the
-- checksums of its bitmaps.
use Rattle.std.specs.Prelude.{ℕ, ℤ, pos, List, [], ◌∷◌, ◌++◌, length, map, nat_eq, if◌then◌else◌}
use Rattle.std.specs.Int.{w64, cast_unsigned, int_max, int_min}
use Rattle.std.specs.List.{filter_map, flat_map, fold, range_with_len}
use Rattle.bsi_schema.specs.Columns.{column_at, Declared, Entries, NamedColumn}
use Rattle.bsi_rows.specs.Rows.{column_of, feeders_of, SourcedRow}
use Rattle.bsi_rows.specs.Table.{Table}
use Rattle.bsi_table.specs.Bitmaps.{entries_bitmaps}
use Rattle.bsi_segments.specs.Bitmaps.{packed}
use Rattle.bsi_segments.specs.Bytes.{packed_bytes, text_words}
use Rattle.bsi_segments.specs.Lanes.{lanes_of}
use Rattle.bsi_segments.specs.Schemas.{encoded_schema}
use Rattle.bsi_syntax.specs.Bytes.{Bytes}

-- The numbers among entries, without the nulls.
abbrev pub numbers_of : Entries → List ℤ
numbers_of entries = filter_map (λ entry. entry) entries

-- The least of some numbers, and 0 of none.
abbrev pub least_of : List ℤ → ℤ
least_of [] = pos 0
least_of (number ∷ numbers) = fold int_min number numbers

-- The greatest of some numbers, and 0 of none.
abbrev pub greatest_of : List ℤ → ℤ
greatest_of [] = pos 0
greatest_of (number ∷ numbers) = fold int_max number numbers

-- The zone of a column: how many numbers it has, the least and the greatest, in two's complement.
abbrev pub zone_words : List ℤ → List ℕ
zone_words numbers =
    length numbers ∷ cast_unsigned w64 (least_of numbers) ∷ cast_unsigned w64 (greatest_of numbers) ∷ []

-- What the head says of a column: its zone, and the checksum of each of its bitmaps.
abbrev pub column_head : NamedColumn → Entries → List ℕ
column_head column entries =
    zone_words (numbers_of entries) ++ map (λ bits. lanes_of (packed bits)) (entries_bitmaps column entries)

-- What the head says of the first `count` columns.
abbrev pub column_heads : Declared → List SourcedRow → ℕ → List ℕ
column_heads schema rows count =
    flat_map (λ c. column_head (column_at schema.columns c) (column_of rows c)) (range_with_len 0 count)

-- The checksum of the words of each row's feeder. With one feeder there is none.
abbrev pub feeder_checksum : ℕ → List ℕ → List ℕ
feeder_checksum feeders row_feeders = if nat_eq feeders 1 then [] else lanes_of (packed_bytes row_feeders) ∷ []

-- What the head says of rows: each column, and the checksum of the feeders.
abbrev pub rows_head : Declared → ℕ → List SourcedRow → List ℕ
rows_head schema feeders rows =
    column_heads schema rows (length schema.columns) ++ feeder_checksum feeders (feeders_of rows)

-- The head of a table's segment: the numbers of rows and feeders and the limit, the notes, the kinds, the schema, and what
-- it says of the rows.
abbrev pub head : Table → Bytes → Bytes → List ℕ
head t notes kinds =
    length t.rows ∷ t.feeders ∷ t.limit
    ∷ text_words notes ++ (text_words kinds ++ (encoded_schema t.schema ++ rows_head t.schema t.feeders t.rows))
