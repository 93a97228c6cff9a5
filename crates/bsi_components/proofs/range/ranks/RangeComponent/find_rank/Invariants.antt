use Rattle.std.proofs.Common.{◌-◌}
use Rattle.bsi_components.specs.Ranks.{IsBetween}
use Rattle.bsi_components.proofs.range.ranks.RangeComponent.find_rank.Given as goal

abbrev pub invariant-digits : goal.invariant-digits
invariant-digits l = IsBetween l.self.base l.rank l.selection.bits l.self.digits l.between.low l.between.high l.between.below

abbrev pub decreases-digits : goal.decreases-digits
decreases-digits l = l.between.high - l.between.low
