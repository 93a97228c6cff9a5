use Rattle.std.proofs.Common.{◌≡◌, ◌*◌, ◌-◌, ◌≤◌, length, take}
use Rattle.std.specs.Prelude.{sum_by, count_ones}
use Rattle.bsi_bits.proofs.lanes.count.Given as goal

abbrev pub invariant-chunks : goal.invariant-chunks
invariant-chunks l = record {
  within : l.at ≤ length l.a;
  counted : l.ones ≡ sum_by count_ones (take l.at l.a);
  few : l.ones ≤ 64 * l.at;
}

abbrev pub decreases-chunks : goal.decreases-chunks
decreases-chunks l = length l.a - l.at
