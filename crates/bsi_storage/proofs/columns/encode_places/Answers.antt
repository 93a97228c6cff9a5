use Rattle.std.proofs.Common.{◌++◌, map, length, false, ap, ap₂, sym, ◌∙◌, append-nil, arith}
use Rattle.std.specs.List.{flat_map, range_with_len}
use Rattle.std.proofs.lemmas.List.{length-map, length-replicate}
use Rattle.std.proofs.lemmas.List.FromFn.{map-range_with_len_more}
use Rattle.bsi_kernels.specs.Places.{has_place}
use Rattle.bsi_segments.specs.Bitmaps.{packed}
use Rattle.bsi_storage.proofs.ColumnBitmaps.{words-push}
use Rattle.bsi_storage.proofs.columns.encode_places.Goals as goal

pub places-init : goal.places-init
places-init g c = record {
  same = sym (ap length c.in_ok-place.ensures ∙ length-replicate c.len.result false ∙ c.len.ensures.len);
  words = sym (append-nil c.args.words.now.items);
}

pub places-preserved : goal.places-preserved
places-preserved g c =
    let old = c.args.words.now.items in
    let digits = g.E.Encoding.digits c.args.component.now in
    let k = c.places.k in
    record {
      same = sym (ap length c.place_into.ensures ∙ length-map digits (has_place k));
      words =
          c.in_ok-encode_bits.ensures.ok
          ∙ ap₂ (λ ws bits. ws ++ packed bits) c.places.invariant.words c.place_into.ensures
          ∙ words-push old (map (λ k. map (has_place k) digits) (range_with_len 0 k)) (map (has_place k) digits)
          ∙ ap (λ maps. old ++ flat_map packed maps) (sym (map-range_with_len_more (λ k. map (has_place k) digits) 0 k k (omega arith)));
    }
