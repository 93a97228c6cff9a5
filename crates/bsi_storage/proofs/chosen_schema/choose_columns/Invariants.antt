use Rattle.std.proofs.Common.{◌≡◌, ◌<◌, false, length, map, take}
use Rattle.std.specs.Prelude.{All}
use Rattle.bsi_schema.specs.Columns.{column_at}
use Rattle.bsi_storage.proofs.chosen_schema.choose_columns.Given as goal

-- the chosen columns so far
abbrev pub invariant-columns : goal.invariant-columns
invariant-columns l = record {
  columns : l.narrow.columns ≡ map (λ c. column_at l.schema.columns c) (take l.i l.chosen);
  there : All (λ c. c < length l.schema.columns) (take l.i l.chosen);
  none : l.i ≡ 0 → l.narrow.signed ≡ false;
  signed : 0 < l.i → l.narrow.signed ≡ l.schema.signed;
}
