use Rattle.std.proofs.Common.{◌≡◌}
use Rattle.bsi_components.specs.Component.{count_where}
use Rattle.bsi_components.specs.Equality.{is_among}
use Rattle.bsi_components.proofs.equality.counts.EqualityComponent.count_among.Given as goal

abbrev pub invariant-digits : goal.invariant-digits
invariant-digits l = l.rows ≡ count_where (is_among l.from l.j) l.selection.bits l.self.digits
