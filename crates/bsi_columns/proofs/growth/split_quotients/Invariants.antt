use Rattle.std.proofs.Common.{◌≡◌, ◌/◌, ◌%◌, ◌^◌, ◌<◌, ◌≤◌, ℕ, length, get_or}
use Rattle.bsi_columns.proofs.growth.split_quotients.Given as goal

-- the rests before r are split, and the others are as they were
abbrev pub invariant-loop-r : goal.invariant-loop-r
invariant-loop-r l = record {
  long : length l.digits ≡ length l.fn.digits;
  ample : length l.quotients ≡ 64;
  digits : (k : ℕ) → k < l.r → get_or l.digits k 0 ≡ get_or l.fn.quotients k 0 % 2 ^ l.places;
  quotients : (k : ℕ) → k < l.r → get_or l.quotients k 0 ≡ get_or l.fn.quotients k 0 / 2 ^ l.places;
  left : (k : ℕ) → l.r ≤ k → get_or l.quotients k 0 ≡ get_or l.fn.quotients k 0;
}
