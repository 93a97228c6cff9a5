use Rattle.std.proofs.Common.{◌≡◌, ◌*◌, ◌-◌, ◌≤◌, length, take}
use Rattle.std.specs.Prelude.{sum_by, count_ones}
use Rattle.std.specs.Simd.Lanes.{zip2}
use Rattle.bsi_bits.proofs.lanes.count_combined.Given as goal

abbrev pub invariant-chunks : goal.invariant-chunks
invariant-chunks g l = record {
  within : l.at ≤ length l.a;
  counted : l.ones ≡ sum_by count_ones (take l.at (zip2 g.O.Operation.word_of l.a l.b));
  few : l.ones ≤ 64 * l.at;
}

abbrev pub decreases-chunks : goal.decreases-chunks
decreases-chunks g l = length l.a - l.at
