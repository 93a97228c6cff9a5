use Rattle.std.proofs.Common.{◌≤◌, ◌*◌, length}
use Rattle.bsi_columns.proofs.NumberBlocks.{AreNumbersAbove}
use Rattle.bsi_columns.proofs.decomposed.Decomposed.numbers_into.Given as goal

-- the digits of the components from i on are read
abbrev pub invariant-components : goal.invariant-components
invariant-components g l = record {
  above : AreNumbersAbove l.self.bases l.self.entries (64 * l.at) l.i l.numbers;
  within : l.i ≤ length l.self.bases;
}
