use Rattle.std.proofs.Common.{◌≡◌, ◌*◌, ◌≤◌, take}
use Rattle.std.specs.Prelude.{sum_by, count_ones}
use Rattle.bsi_bits.proofs.Summing.{quarters}
use Rattle.bsi_bits.proofs.lanes.count_few.Given as goal

abbrev pub invariant-fours : goal.invariant-fours
invariant-fours l = record {
  counted : l.ones ≡ quarters count_ones l.a l.quarter l.k;
  few : l.ones ≤ 256 * l.k;
}

abbrev pub invariant-rest : goal.invariant-rest
invariant-rest l = record {
  counted : l.ones ≡ sum_by count_ones (take l.i l.a);
  few : l.ones ≤ 64 * l.i;
}
