use Rattle.std.proofs.Common.{◌≡◌, length, map, ap, sym, ◌∙◌, refl, arith}
use Rattle.std.proofs.lemmas.List.{length-map}
use Rattle.bsi_kernels.specs.Places.{has_place}
use Rattle.bsi_kernels.proofs.BitmapReads.{read_bitmap}
use Rattle.bsi_components.specs.PlaceNumbers.{numbers_in}
use Rattle.bsi_components.proofs.PlaceNumbers.{above_by, above_stepped, above_rows, above_all, none_above, length-numbers_in, numbers_below, places_are, one_read}
use Rattle.bsi_components.proofs.building.rows_above.Goals as goal

pub places-init : goal.places-init
places-init c =
    let first = ap (λ r. r.bits) (read_bitmap c.args.places.now 0 c.index-places-0.result c.requires.level.some c.index-places-0.is) in
    c.in_ok-rows.ensures
    ∙ none_above c.args.d c.len.result (numbers_in c.args.places.now) (length-numbers_in c.args.places.now ∙ sym (c.len.ensures.len ∙ ap length first))

pub step_above-requires : goal.step_above-requires
step_above-requires c =
    let ns = numbers_in c.args.places.now in
    let k = c.places.k in
    let read = ap (λ r. r.bits) (read_bitmap c.args.places.now k c.index-places-k.result c.places-test.true c.index-places-k.is) in
    ap length c.places.invariant ∙ length-map ns (above_by c.args.d k) ∙ sym (length-map ns (has_place k)) ∙ sym (ap length (read ∙ (places_are c.args.places.now c.requires.level).each k c.places-test.true))

pub places-preserved : goal.places-preserved
places-preserved c =
    let ns = numbers_in c.args.places.now in
    let k = c.places.k in
    let read = ap (λ r. r.bits) (read_bitmap c.args.places.now k c.index-places-k.result c.places-test.true c.index-places-k.is) in
    let place = read ∙ (places_are c.args.places.now c.requires.level).each k c.places-test.true in
    c.step_above.ensures
    ∙ (λ j. above_stepped (one_read c.args.d k j) (c.places.invariant j) (place j))
    ∙ above_rows c.args.d k ns (has_place k c.args.d) refl

pub returns : goal.returns
returns c =
    let ns = numbers_in c.args.places.now in
    let all : c.places.k ≡ length c.args.places.now = omega arith in
    c.places.invariant ∙ ap (λ k. map (above_by c.args.d k) ns) all
    ∙ above_all c.args.d (length c.args.places.now) ns c.requires.below (numbers_below c.args.places.now)
