use Rattle.std.proofs.Common.{◌≡◌, ◌<◌, ◌++◌, true, length}
use Rattle.std.specs.List.{flat_map}
use Rattle.bsi_segments.specs.Schemas.{column_words}
use Rattle.bsi_segments.proofs.Coding.{AllFit}
use Rattle.bsi_segments.proofs.schemas.decode_columns.Given as goal

-- the columns so far, and the words behind them
abbrev pub invariant-columns : goal.invariant-columns
invariant-columns l = record {
  split : l.words ≡ flat_map column_words l.schema.columns ++ l.rest;
  many : length l.schema.columns ≡ l.counter;
  fit : AllFit l.schema.columns;
  signed_is : l.schema.signed ≡ true → l.signed ≡ true;
  signed : 0 < l.counter → l.schema.signed ≡ l.signed;
}
