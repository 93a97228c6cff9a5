-- How many bytes the rows of an index take, and the call for it. Reserved memory comes on top.
use Rattle.std.specs.Prelude.{◌≡◌, ℕ, ◌+◌, ◌-◌, ◌*◌, ◌||◌, Bool, true, false, Option, Ok, Err, length, nat_eq, sum_by, if◌then◌else◌}
use Rattle.bsi_bits.specs.BitList.{word_count}
use Rattle.bsi_components.specs.Bitmaps.{stored_places}
use Rattle.bsi_origins.specs.Origins.{tally_count, tally_len}
use Rattle.bsi_rows.specs.Table.{Table}
use Rattle.bsi_schema.specs.declared.form.Form.{Form}
use Rattle.bsi_schema.specs.declared.form.Form.TheVariants.{Slices, Equality, Range}
use Rattle.bsi_ffi.specs.Calls.{WhereOpen}
use Rattle.bsi_ffi.specs.OpenIndex.{OpenIndex}
use Rattle.bsi_ffi.specs.Statuses.{Ending}

-- The bitmaps of the digits below a base, and of their binary places. Range encoding has none for the last digit, and
-- neither encoding has two for base 2.
abbrev pub stored_digit_bitmaps : Bool → ℕ → ℕ
stored_digit_bitmaps is_range base = (if is_range || nat_eq base 2 then base - 1 else base) + stored_places base

-- The bitmaps of a column, with the not-null bitmap.
abbrev pub stored_bitmaps : Form → ℕ
stored_bitmaps (Slices w) = 1 + w
stored_bitmaps (Equality bs) = 1 + sum_by (stored_digit_bitmaps false) bs
stored_bitmaps (Range bs) = 1 + sum_by (stored_digit_bitmaps true) bs

-- The bitmaps in words of 8 bytes, one byte a row for its feeder, and, with several feeders, counts of 4 bytes.
abbrev pub index_bytes : Table → ℕ
index_bytes table =
    8 * word_count (length table.rows) * sum_by (λ column. stored_bitmaps column.form) table.schema.columns
    + length table.rows + 4 * tally_len table.feeders * tally_count (length table.rows)

abbrev pub IsMeasured : OpenIndex → ℕ → Ending → Type 0
IsMeasured opened bytes (Ok done) = bytes ≡ index_bytes opened.table
IsMeasured opened bytes (Err why) = ⊥

abbrev pub IsMeasuring : Option OpenIndex → ℕ → Ending → Type 0
IsMeasuring index bytes ending = WhereOpen index (λ opened ending. IsMeasured opened bytes ending) ending
