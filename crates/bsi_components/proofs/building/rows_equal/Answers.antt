use Rattle.std.proofs.Common.{◌≡◌, length, map, ap, sym, ◌∙◌, refl, arith}
use Rattle.std.proofs.lemmas.List.{length-map}
use Rattle.bsi_kernels.specs.Places.{has_place}
use Rattle.bsi_kernels.proofs.BitmapReads.{read_bitmap}
use Rattle.bsi_components.specs.PlaceNumbers.{numbers_in}
use Rattle.bsi_components.proofs.PlaceNumbers.{equal_by, equal_stepped, equal_rows, equal_all, all_equal, length-numbers_in, numbers_below, places_are, one_read}
use Rattle.bsi_components.proofs.building.rows_equal.Goals as goal

pub places-init : goal.places-init
places-init c =
    let first = ap (λ r. r.bits) (read_bitmap c.args.places.now 0 c.index-places-0.result c.requires.level.some c.index-places-0.is) in
    c.in_ok-rows.ensures
    ∙ all_equal c.args.d c.len.result (numbers_in c.args.places.now) (length-numbers_in c.args.places.now ∙ sym (c.len.ensures.len ∙ ap length first))

pub step_equal-requires : goal.step_equal-requires
step_equal-requires c =
    let ns = numbers_in c.args.places.now in
    let k = c.places.k in
    let read = ap (λ r. r.bits) (read_bitmap c.args.places.now k c.index-places-k.result c.places-test.true c.index-places-k.is) in
    ap length c.places.invariant ∙ length-map ns (equal_by c.args.d k) ∙ sym (length-map ns (has_place k)) ∙ sym (ap length (read ∙ (places_are c.args.places.now c.requires.level).each k c.places-test.true))

pub places-preserved : goal.places-preserved
places-preserved c =
    let ns = numbers_in c.args.places.now in
    let k = c.places.k in
    let read = ap (λ r. r.bits) (read_bitmap c.args.places.now k c.index-places-k.result c.places-test.true c.index-places-k.is) in
    let place = read ∙ (places_are c.args.places.now c.requires.level).each k c.places-test.true in
    c.step_equal.ensures
    ∙ (λ j. equal_stepped (one_read c.args.d k j) (c.places.invariant j) (place j))
    ∙ equal_rows c.args.d k ns (has_place k c.args.d) refl

pub returns : goal.returns
returns c =
    let ns = numbers_in c.args.places.now in
    let all : c.places.k ≡ length c.args.places.now = omega arith in
    c.places.invariant ∙ ap (λ k. map (equal_by c.args.d k) ns) all
    ∙ equal_all c.args.d (length c.args.places.now) ns c.requires.below (numbers_below c.args.places.now)
