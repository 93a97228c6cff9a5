use Rattle.std.proofs.Common.{refl, sym, rules}
use Rattle.bsi_aggregates.proofs.Tallied.{sum_none}
use Rattle.bsi_aggregates.proofs.tally.Tally.new.Goals as goal

pub returns : goal.returns
returns c = record {
  rows = refl;
  within = record { most = search rules; fewest = search rules };
  sum = sym sum_none;
  least = refl;
  greatest = refl;
}
