use Rattle.std.proofs.Common.{◌≡◌, ◌*◌, ◌≤◌, false, take}
use Rattle.std.specs.Prelude.{sum_by, count_ones}
use Rattle.std.specs.Simd.Lanes.{zip2}
use Rattle.bsi_kernels.specs.Ranks.{narrowed_word}
use Rattle.bsi_kernels.proofs.Narrowing.{line_words}
use Rattle.bsi_kernels.proofs.ranks.count_words.Given as goal

abbrev pub invariant-lines : goal.invariant-lines
invariant-lines l = record {
  counted : l.clear ≡ sum_by count_ones (take (line_words * l.k) (zip2 (narrowed_word false) l.words l.others));
  few : l.clear ≤ 64 * (line_words * l.k);
}

abbrev pub invariant-words : goal.invariant-words
invariant-words l = record {
  counted : l.clear ≡ sum_by count_ones (take l.i (zip2 (narrowed_word false) l.words l.others));
  few : l.clear ≤ 64 * l.i;
}
