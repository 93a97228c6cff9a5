use Rattle.std.proofs.Common.{◌-◌, ◌<◌, ◌≤◌}
use Rattle.bsi_components.proofs.range.ranks.RangeComponent.likely_digit.Given as goal

abbrev pub invariant-digits : goal.invariant-digits
invariant-digits l = record {
  order : l.low ≤ l.high;
  within : l.high < l.self.base;
}

abbrev pub decreases-digits : goal.decreases-digits
decreases-digits l = l.high - l.low
