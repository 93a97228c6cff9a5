use Rattle.std.proofs.Common.{◌≡◌, ◌*◌, ◌≤◌, length}
use Rattle.std.specs.List.{flat_map, range_with_len}
use Rattle.bsi_kernels.specs.Places.{max_digit_places}
use Rattle.bsi_columns.specs.StoredBitmaps.{digit_places}
use Rattle.bsi_columns.proofs.bitmaps.count_places.Given as goal

-- the places of the digits so far
abbrev pub invariant-bases : goal.invariant-bases
invariant-bases l = record {
  count : l.count ≡ length (flat_map (digit_places l.bases) (range_with_len 0 l.i));
  few : l.count ≤ max_digit_places * l.i;
}
