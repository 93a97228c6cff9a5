use Rattle.std.proofs.Common.{◌+◌, ap, ◌∙◌}
use Rattle.bsi_columns.proofs.ColumnPlaces.{length-slice_places}
use Rattle.bsi_table.specs.Bitmaps.{bitmap_count}
use Rattle.bsi_table.proofs.bitmaps.stored_from_bitmaps.Goals as goal

pub slices_from_bitmaps-column-requires-clause-count : goal.slices_from_bitmaps-column-requires-clause-count
slices_from_bitmaps-column-requires-clause-count c =
    c.requires.count ∙ ap bitmap_count c.in-Slices.is ∙ ap (λ n. 1 + n) (length-slice_places c.in-Slices.width)
