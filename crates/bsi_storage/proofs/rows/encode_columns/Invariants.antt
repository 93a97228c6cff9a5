use Rattle.std.proofs.Common.{◌≡◌, ◌++◌}
use Rattle.bsi_storage.specs.Saved.{columns_words}
use Rattle.bsi_storage.proofs.rows.encode_columns.Given as goal

-- the words of the columns so far
abbrev pub invariant-columns : goal.invariant-columns
invariant-columns l = l.words.items ≡ l.initial.words.items ++ columns_words l.index.schema l.index.rows 0 l.c
