use Rattle.std.proofs.Common.{◌≡◌, List, ℕ, ◌-◌, ◌*◌, ◌≤◌, ◌<◌, ◌^◌, length, get_or}
use Rattle.bsi_kernels.specs.Places.{has_place, IsEncoded}
use Rattle.bsi_kernels.proofs.DigitBlocks.{sum_before}
use Rattle.bsi_kernels.proofs.sums.sum_by_places.Given as goal

-- the numbers in the words so far are added
abbrev pub invariant-spans : goal.invariant-spans
invariant-spans l = record {
  within : l.at ≤ length l.words;
  some : 1 ≤ l.most;
  short : l.most ≤ 1024;
  few : l.sum ≤ l.at * 2 ^ 95;
  summed : (numbers : List ℕ) → IsEncoded has_place l.places numbers → ((k : ℕ) → get_or numbers k 0 < 2 ^ length l.places) → length numbers ≡ length l.selection.bits
      → l.sum ≡ sum_before l.selection.bits numbers l.at;
}

abbrev pub decreases-spans : goal.decreases-spans
decreases-spans l = length l.words - l.at
