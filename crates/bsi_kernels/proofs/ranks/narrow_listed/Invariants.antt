use Rattle.std.proofs.Common.{◌≡◌, ◌*◌, ◌≤◌, false, take}
use Rattle.std.specs.Prelude.{sum_by, count_ones}
use Rattle.std.specs.Simd.Lanes.{zip2}
use Rattle.bsi_bits.proofs.Filling.{IsFilled, paired}
use Rattle.bsi_kernels.proofs.Listing.{next_after}
use Rattle.bsi_kernels.specs.Ranks.{narrowed_word}
use Rattle.bsi_kernels.proofs.ranks.narrow_listed.Given as goal

abbrev pub invariant-listed : goal.invariant-listed
invariant-listed l = record {
  filled : IsFilled (paired (narrowed_word l.is_set) l.words) (next_after l.listed.indices l.i) l.fn.chosen l.chosen;
  counted : l.clear ≡ sum_by count_ones (take (next_after l.listed.indices l.i) (zip2 (narrowed_word false) (zip2 (narrowed_word l.is_set) l.fn.chosen l.words) l.next));
  few : l.clear ≤ 64 * next_after l.listed.indices l.i;
}
