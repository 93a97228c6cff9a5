use Rattle.std.proofs.Common.{◌++◌, map, ap, ap₂, sym, ◌∙◌, append-nil}
use Rattle.std.specs.List.{flat_map}
use Rattle.bsi_digits.specs.Comparisons.{number_or_zero}
use Rattle.bsi_kernels.specs.Places.{has_place}
use Rattle.bsi_columns.specs.StoredBitmaps.{bitmaps_by, slice_places}
use Rattle.bsi_columns.proofs.ColumnPlaces.{slices_more}
use Rattle.bsi_segments.specs.Bitmaps.{packed}
use Rattle.bsi_storage.proofs.ColumnBitmaps.{words-push}
use Rattle.bsi_storage.proofs.columns.encode_slices.Goals as goal

pub slices-init : goal.slices-init
slices-init c =
    c.in_ok-encode_bits.ensures.ok
    ∙ ap (λ bits. c.args.words.now.items ++ packed bits) c.not_null.ensures
    ∙ ap (λ ws. c.args.words.now.items ++ ws) (sym (append-nil _))

pub slices-preserved : goal.slices-preserved
slices-preserved c =
    let old = c.args.words.now.items in
    let entries = c.args.column.now.entries in
    let k = c.slices.k in
    c.in_ok-encode_bits-2.ensures.ok
    ∙ ap₂ (λ ws bits. ws ++ packed bits) c.slices.invariant c.slice.ensures
    ∙ words-push old (bitmaps_by (slice_places k) entries) (map (λ e. has_place k (number_or_zero e)) entries)
    ∙ ap (λ maps. old ++ flat_map packed maps) (sym (slices_more entries k))
