use Rattle.std.proofs.Common.{◌≡◌, ◌-◌, ◌<◌, ◌≤◌, length}
use Rattle.std.specs.Prelude.{nat_lt, nat_le}
use Rattle.bsi_components.specs.Component.{count_where}
use Rattle.bsi_components.proofs.encoding.Encoding.rows_of_rank.Given as goal

abbrev pub invariant-digits : goal.invariant-digits
invariant-digits g l =
    let digits = g.Self.Encoding.digits l.self in
    record {
      order : l.low ≤ l.high;
      within : l.high < g.Self.Encoding.base_of l.self;
      below_is : l.below ≡ count_where (λ v. nat_lt v l.low) l.selection.bits digits;
      at_least : l.below ≤ l.rank;
      under : l.rank < count_where (λ v. nat_le v l.high) l.selection.bits digits;
      even : length digits ≡ length l.scratch.bits;
    }

abbrev pub decreases-digits : goal.decreases-digits
decreases-digits g l = l.high - l.low
