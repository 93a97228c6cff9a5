use Rattle.std.proofs.Common.{◌≡◌, length}
use Rattle.bsi_columns.proofs.Rungs.{IsRung}
use Rattle.bsi_columns.proofs.decomposed.Decomposed.number_of_rank.Given as goal

abbrev pub invariant-components : goal.invariant-components
invariant-components g l = record {
  rung : IsRung l.bases l.selection.bits l.self.entries l.rank l.i l.number l.left l.chosen.bits;
  chosen_even : length l.chosen.bits ≡ length l.selection.bits;
}
