use Rattle.std.proofs.Common.{◌≡◌, ◌%◌}
use Rattle.std.specs.Prelude.{sum_by}
use Rattle.bsi_digits.specs.Digits.{weight}
use Rattle.bsi_digits.specs.Orders.{values_at}
use Rattle.bsi_columns.proofs.decomposed.Decomposed.sum_selected.Given as goal

abbrev pub invariant-components : goal.invariant-components
invariant-components g l = l.total ≡ sum_by (λ n. n % weight l.bases l.i) (values_at l.selection.bits l.self.entries)
