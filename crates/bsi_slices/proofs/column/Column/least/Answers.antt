use Rattle.std.proofs.Common.{refl}
use Rattle.bsi_digits.specs.Orders.{values_at}
use Rattle.bsi_slices.proofs.Ranking.{least_ranked}
use Rattle.bsi_slices.proofs.column.Column.least.Goals as goal

pub returns-in_ok-ranked-in_default : goal.returns-in_ok-ranked-in_default
returns-in_ok-ranked-in_default g c =
    least_ranked (values_at c.args.selection.now.bits (g.Self.Column.entries c.args.self.now)) 0 c.in_ok-ranked-in_default.field-0 c.in_ok-ranked-in_default.ensures refl
