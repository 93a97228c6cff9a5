use Rattle.std.proofs.Common.{◌≡◌, ◌++◌}
use Rattle.std.specs.List.{flat_map}
use Rattle.bsi_columns.proofs.ColumnPlaces.{bitmaps_upto}
use Rattle.bsi_segments.specs.Bitmaps.{packed}
use Rattle.bsi_storage.proofs.columns.encode_components.Given as goal

-- the words of the components so far
abbrev pub invariant-components : goal.invariant-components
invariant-components g l = l.words.items ≡ l.fn.words.items ++ flat_map packed (bitmaps_upto l.column.bases l.column.entries l.i)
