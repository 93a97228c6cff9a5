use Rattle.std.proofs.Common.{◌<◌, length, arith}
use Rattle.bsi_digits.specs.Orders.{values_at}
use Rattle.bsi_slices.proofs.Ranking.{greatest_ranked}
use Rattle.bsi_slices.proofs.column.Column.greatest.Goals as goal

pub returns-in_ok-ranked-in_default : goal.returns-in_ok-ranked-in_default
returns-in_ok-ranked-in_default g c =
    let numbers = values_at c.args.selection.now.bits (g.Self.Column.entries c.args.self.now) in
    let some : 0 < length numbers = omega (arith, c.in_default, c.count_numbers.ensures) in
    greatest_ranked numbers _ c.in_ok-ranked-in_default.field-0 c.in_ok-ranked-in_default.ensures (omega (arith, c.count_numbers.ensures, some))
