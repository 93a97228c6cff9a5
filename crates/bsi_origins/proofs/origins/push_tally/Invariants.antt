use Rattle.std.proofs.Common.{◌≡◌, ◌+◌, ◌++◌, take, vec_len, vec_capacity}
use Rattle.bsi_origins.proofs.origins.push_tally.Given as goal

abbrev pub invariant-counts : goal.invariant-counts
invariant-counts l = record {
  items : l.tallies.items ≡ l.fn.tallies.items ++ take l.count-index l.counts;
  len : vec_len l.tallies ≡ vec_len l.fn.tallies + l.count-index;
  capacity : vec_capacity l.tallies ≡ vec_capacity l.fn.tallies;
}
