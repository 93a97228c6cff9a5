use Rattle.std.proofs.Common.{◌≡◌, ℕ, ◌≤◌, slice_index}
use Rattle.bsi_digits.specs.Digits.{max_size, weight}
use Rattle.bsi_digits.proofs.bases.weights.Given as goal

abbrev pub invariant-loop-i : goal.invariant-loop-i
invariant-loop-i l = record {
  each : (k : ℕ) → k ≤ l.i → slice_index l.divisors k ≡ weight l.bases k;
  last : l.weight ≡ weight l.bases l.i;
  some : 1 ≤ l.weight;
  small : l.weight ≤ max_size;
}
