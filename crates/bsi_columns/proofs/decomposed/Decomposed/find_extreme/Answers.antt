use Rattle.std.proofs.Common.{◌<◌, length, refl, arith}
use Rattle.bsi_digits.specs.Orders.{values_at}
use Rattle.bsi_columns.proofs.Ranking.{greatest_ranked, least_ranked}
use Rattle.bsi_columns.proofs.decomposed.Decomposed.find_extreme.Goals as goal

pub returns-in_ok-ranked-in_default-Least-clause-extreme : goal.returns-in_ok-ranked-in_default-Least-clause-extreme
returns-in_ok-ranked-in_default-Least-clause-extreme g c =
    let numbers = values_at c.args.selection.now.bits c.args.self.now.entries in
    rw c.in_default-Least.is-1 (least_ranked numbers 0 c.in_ok-ranked-in_default-Least.field-0 c.in_ok-ranked-in_default-Least.ensures refl)

pub returns-in_ok-ranked-in_default-Greatest-clause-extreme : goal.returns-in_ok-ranked-in_default-Greatest-clause-extreme
returns-in_ok-ranked-in_default-Greatest-clause-extreme g c =
    let numbers = values_at c.args.selection.now.bits c.args.self.now.entries in
    let some : 0 < length numbers = omega (arith, c.in_default-Greatest, c.count_numbers.ensures) in
    rw c.in_default-Greatest.is-1
    (greatest_ranked numbers _ c.in_ok-ranked-in_default-Greatest.field-0 c.in_ok-ranked-in_default-Greatest.ensures (omega (arith, c.count_numbers.ensures, some)))
