use Rattle.std.proofs.Common.{◌+◌, ap, sym, ◌∙◌}
use Rattle.bsi_columns.proofs.ColumnPlaces.{length-slice_places}
use Rattle.bsi_table.specs.Bitmaps.{bitmap_count}
use Rattle.bsi_table.proofs.bitmaps.count_bitmaps.Goals as goal

pub returns-in-Slices : goal.returns-in-Slices
returns-in-Slices c = sym (ap bitmap_count c.in-Slices.is ∙ ap (λ n. 1 + n) (length-slice_places c.in-Slices.width))
