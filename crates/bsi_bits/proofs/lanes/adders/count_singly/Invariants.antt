use Rattle.std.proofs.Common.{◌≡◌, ◌*◌, ◌≤◌}
use Rattle.std.specs.Prelude.{sum_by, count_ones}
use Rattle.std.specs.Simd.Lanes.{zip2, chunk}
use Rattle.bsi_bits.proofs.lanes.adders.count_singly.Given as goal

abbrev pub invariant-words : goal.invariant-words
invariant-words g l = record {
  counted : l.ones ≡ sum_by count_ones (chunk l.at l.k (zip2 g.O.Operation.word_of l.a l.b));
  few : l.ones ≤ 64 * l.k;
}
