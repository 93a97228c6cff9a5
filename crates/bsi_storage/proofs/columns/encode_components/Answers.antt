use Rattle.std.proofs.Common.{◌++◌, ap, ap₂, sym, ◌∙◌, append-nil}
use Rattle.std.specs.List.{flat_map}
use Rattle.bsi_columns.specs.ComponentPlaces.{digit_bitmaps}
use Rattle.bsi_columns.proofs.ColumnPlaces.{bitmaps_upto, components_more}
use Rattle.bsi_segments.specs.Bitmaps.{packed}
use Rattle.bsi_storage.proofs.ColumnBitmaps.{words-more}
use Rattle.bsi_storage.proofs.columns.encode_components.Goals as goal

pub components-init : goal.components-init
components-init g c =
    c.in_ok-encode_bits.ensures.ok
    ∙ ap (λ bits. c.args.words.now.items ++ packed bits) c.not_null.ensures
    ∙ ap (λ ws. c.args.words.now.items ++ ws) (sym (append-nil _))

pub components-preserved : goal.components-preserved
components-preserved g c =
    let old = c.args.words.now.items in
    let bs = c.args.column.now.bases in
    let entries = c.args.column.now.entries in
    let i = c.components.i in
    c.in_ok-encode_places.ensures
    ∙ ap₂ (λ ws maps. ws ++ flat_map packed maps) c.components.invariant (ap₂ digit_bitmaps c.component.ensures.base c.component.ensures.digits)
    ∙ words-more old (bitmaps_upto bs entries i) _
    ∙ ap (λ maps. old ++ flat_map packed maps) (sym (components_more bs entries i))
