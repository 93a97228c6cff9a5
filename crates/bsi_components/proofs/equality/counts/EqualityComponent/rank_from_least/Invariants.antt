use Rattle.std.proofs.Common.{◌≡◌, ◌+◌}
use Rattle.std.specs.Prelude.{nat_lt}
use Rattle.bsi_components.specs.Component.{count_where}
use Rattle.bsi_components.proofs.equality.counts.EqualityComponent.rank_from_least.Given as goal

abbrev pub invariant-digits : goal.invariant-digits
invariant-digits l = l.rank ≡ count_where (λ v. nat_lt v l.digit) l.selection.bits l.self.digits + l.left
