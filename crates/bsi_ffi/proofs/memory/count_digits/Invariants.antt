use Rattle.std.proofs.Common.{◌≡◌, ◌*◌, ◌≤◌, take}
use Rattle.std.specs.List.{sum_by}
use Rattle.bsi_ffi.specs.Memory.{stored_digit_bitmaps}
use Rattle.bsi_ffi.proofs.memory.count_digits.Given as goal

-- the bitmaps of the bases so far
abbrev pub invariant-bases : goal.invariant-bases
invariant-bases l = record {
  count : l.count ≡ sum_by (stored_digit_bitmaps l.is_range) (take l.i l.bases);
  few : l.count ≤ 1040 * l.i;
}
