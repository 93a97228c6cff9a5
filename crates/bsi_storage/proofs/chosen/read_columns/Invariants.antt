use Rattle.std.proofs.Common.{◌≡◌, ◌≤◌, length}
use Rattle.std.specs.Vec.{vec_capacity}
use Rattle.bsi_storage.specs.ChosenColumns.{AreChosenColumns}
use Rattle.bsi_storage.proofs.chosen.read_columns.Given as goal

-- the columns so far, and room for all
abbrev pub invariant-columns : goal.invariant-columns
invariant-columns g l = record {
  many : length l.columns.items ≡ l.i;
  each : AreChosenColumns (g.R.ReadAt.all_bytes l.reader) l.head l.chosen l.columns.items l.i;
  room : length l.chosen ≤ vec_capacity l.columns;
}
