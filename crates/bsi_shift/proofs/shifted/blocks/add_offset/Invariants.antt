use Rattle.std.proofs.Common.{◌≡◌, ℕ, ◌<◌, ◌^◌, pos, ◌<ℤ◌, length, get_or}
use Rattle.bsi_digits.specs.Offsets.{number_of}
use Rattle.bsi_shift.proofs.shifted.blocks.add_offset.Given as goal

-- the numbers of the first r rows are written
abbrev pub invariant-rows : goal.invariant-rows
invariant-rows l = record {
  long : length l.numbers ≡ 64;
  done : (i : ℕ) → i < l.r → get_or l.stored i 0 < 2 ^ 63 → number_of l.offset (get_or l.stored i 0) <ℤ pos (2 ^ 63) → get_or l.numbers i (pos 0) ≡ number_of l.offset (get_or l.stored i 0);
}
