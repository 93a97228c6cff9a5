use Rattle.std.proofs.Common.{◌≡◌, ◌*◌, ◌≤◌, take}
use Rattle.std.specs.List.{sum_by}
use Rattle.bsi_ffi.specs.Memory.{stored_bitmaps}
use Rattle.bsi_ffi.proofs.memory.count_bitmaps.Given as goal

-- the bitmaps of the columns so far
abbrev pub invariant-columns : goal.invariant-columns
invariant-columns l = record {
  count : l.count ≡ sum_by (λ column. stored_bitmaps column.form) (take l.c l.schema.columns);
  few : l.count ≤ 65536 * l.c;
}
