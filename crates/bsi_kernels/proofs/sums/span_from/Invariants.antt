use Rattle.std.proofs.Common.{◌≡◌, ℕ, ◌-◌, ◌≤◌, ◌<◌, length, get_or}
use Rattle.bsi_kernels.proofs.sums.span_from.Given as goal

-- the lines before the span have no row
abbrev pub invariant-lines : goal.invariant-lines
invariant-lines l = record {
  forward : l.at ≤ l.start;
  within : l.start ≤ length l.words;
  clear : (k : ℕ) → l.at ≤ k → k < l.start → get_or l.words k 0 ≡ 0;
}

abbrev pub decreases-lines : goal.decreases-lines
decreases-lines l = length l.words - l.start
