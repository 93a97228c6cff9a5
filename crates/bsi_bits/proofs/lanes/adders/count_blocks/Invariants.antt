use Rattle.std.proofs.Common.{◌≡◌, ◌+◌, ◌*◌, ◌≤◌, take}
use Rattle.std.specs.Prelude.{sum_by, count_ones}
use Rattle.std.specs.Simd.Lanes.{zip2}
use Rattle.bsi_bits.specs.Adders.{added_ones}
use Rattle.bsi_bits.proofs.lanes.adders.count_blocks.Given as goal

abbrev pub invariant-chunks : goal.invariant-chunks
invariant-chunks g l = record {
  counted : l.singles + 8 * l.eights + added_ones l.adders.ones l.adders.twos l.adders.fours
      ≡ sum_by count_ones (take (64 * l.k) (zip2 g.O.Operation.word_of l.a l.b));
  few : l.singles + 8 * l.eights + added_ones l.adders.ones l.adders.twos l.adders.fours ≤ 4096 * l.k;
}
