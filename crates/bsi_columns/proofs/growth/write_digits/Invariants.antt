use Rattle.std.proofs.Common.{◌≡◌, ◌+◌, ◌/◌, ◌<◌, ◌≤◌, ℕ, length, get_or}
use Rattle.bsi_digits.specs.Digits.{digit_of, weight}
use Rattle.bsi_columns.proofs.growth.write_digits.Given as goal

abbrev pub invariant-loop-r : goal.invariant-loop-r
invariant-loop-r l = record {
  long : length l.digits ≡ length l.numbers;
  done : (k : ℕ) → k < l.r → get_or l.digits k 0 ≡ digit_of l.bases (get_or l.numbers k 0) l.i;
  below : (k : ℕ) → k < l.r → get_or l.digits k 0 < get_or l.bases l.i 0;
  ample : length l.quotients ≡ 64;
  divided : (k : ℕ) → k < l.r → get_or l.quotients k 0 ≡ get_or l.numbers k 0 / weight l.bases (l.i + 1);
  left : (k : ℕ) → l.r ≤ k → k < length l.numbers → get_or l.quotients k 0 ≡ get_or l.numbers k 0 / weight l.bases l.i;
}
