use Rattle.std.proofs.Common.{◌≡◌, ◌*◌, ◌≤◌, take}
use Rattle.std.specs.Prelude.{sum_by, count_ones}
use Rattle.std.specs.Simd.Lanes.{zip2}
use Rattle.bsi_bits.proofs.lanes.count_by_fours.Given as goal

abbrev pub invariant-fours : goal.invariant-fours
invariant-fours g l = record {
  counted : l.ones ≡ sum_by count_ones (take (4 * l.k) (zip2 g.O.Operation.word_of l.a l.b));
  few : l.ones ≤ 256 * l.k;
}

abbrev pub invariant-rest : goal.invariant-rest
invariant-rest g l = record {
  counted : l.ones ≡ sum_by count_ones (take l.i (zip2 g.O.Operation.word_of l.a l.b));
  few : l.ones ≤ 64 * l.i;
}
