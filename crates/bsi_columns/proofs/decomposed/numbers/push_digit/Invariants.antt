use Rattle.std.proofs.Common.{◌≡◌, ℕ, ◌+◌, ◌*◌, ◌<◌, ◌≤◌, ◌^◌, length, get_or}
use Rattle.bsi_columns.proofs.decomposed.numbers.push_digit.Given as goal

-- the numbers of the first r rows have their digit
abbrev pub invariant-rows : goal.invariant-rows
invariant-rows l = record {
  long : length l.numbers ≡ 64;
  done : (i : ℕ) → i < l.r → get_or l.fn.numbers i 0 * l.base + get_or l.digits i 0 < 2 ^ 64 → get_or l.numbers i 0 ≡ get_or l.fn.numbers i 0 * l.base + get_or l.digits i 0;
  rest : (i : ℕ) → l.r ≤ i → get_or l.numbers i 0 ≡ get_or l.fn.numbers i 0;
}
