use Rattle.std.proofs.Common.{◌≡◌, ◌++◌, ◌-◌, ◌<◌, ℕ, List, length}
use Rattle.bsi_rows.specs.Rows.{SourcedRow}
use Rattle.bsi_schema.specs.Columns.{column_at}
use Rattle.bsi_table.specs.Encoded.{encoded_at, Encodes}
use Rattle.bsi_storage.specs.Saved.{columns_words, AreRows}
use Rattle.bsi_storage.specs.Decoding.{encoded_words}
use Rattle.bsi_storage.proofs.decoding.decode_columns.Given as goal

-- the columns so far; behind their words stand those of the other columns of any rows that all words are of
abbrev pub invariant-columns : goal.invariant-columns
invariant-columns l = record {
  many : length l.columns.items ≡ l.c;
  file : (k : ℕ) → k < l.c → Encodes (column_at l.schema.columns k) (encoded_at l.columns.items k) l.rows;
  words : l.words ≡ encoded_words l.schema l.columns.items l.c ++ l.rest;
  others : (others : List SourcedRow) (rest : List ℕ) (feeders : ℕ) → AreRows l.schema feeders others → length others ≡ l.rows
      → l.words ≡ columns_words l.schema others 0 (length l.schema.columns) ++ rest
      → l.rest ≡ columns_words l.schema others l.c (length l.schema.columns - l.c) ++ rest;
}
