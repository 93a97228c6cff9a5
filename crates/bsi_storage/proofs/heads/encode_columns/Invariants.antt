use Rattle.std.proofs.Common.{◌≡◌, ◌-◌, ◌++◌, length}
use Rattle.bsi_rows.specs.Rows.{feeders_of}
use Rattle.bsi_storage.specs.Heads.{column_heads}
use Rattle.bsi_storage.specs.Saved.{columns_words, feeder_words}
use Rattle.bsi_storage.proofs.heads.encode_columns.Given as goal

-- the columns so far, and the words of the others
abbrev pub invariant-columns : goal.invariant-columns
invariant-columns l = record {
  heads : l.words.items ≡ l.initial.words.items ++ column_heads l.index.schema l.index.rows l.c;
  left : l.rest ≡ columns_words l.index.schema l.index.rows l.c (length l.index.schema.columns - l.c) ++ feeder_words l.index.feeders (feeders_of l.index.rows);
}
