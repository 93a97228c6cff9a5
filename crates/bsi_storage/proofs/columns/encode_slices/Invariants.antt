use Rattle.std.proofs.Common.{◌≡◌, ◌++◌}
use Rattle.std.specs.List.{flat_map}
use Rattle.bsi_columns.specs.StoredBitmaps.{bitmaps_by, slice_places}
use Rattle.bsi_segments.specs.Bitmaps.{packed}
use Rattle.bsi_storage.proofs.columns.encode_slices.Given as goal

-- the words of the slices so far
abbrev pub invariant-slices : goal.invariant-slices
invariant-slices l = l.words.items ≡ l.fn.words.items ++ flat_map packed (bitmaps_by (slice_places l.k) l.column.entries)
