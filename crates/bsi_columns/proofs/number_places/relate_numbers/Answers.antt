use Rattle.std.proofs.Common.{◌≡◌, ◌%◌, ◌^◌, length, ap, ap₂, sym, ◌∙◌, arith}
use Rattle.std.proofs.Math.Nat.{mod-eq_of_lt}
use Rattle.std.proofs.lemmas.Nat.{mod_below, pow_pos}
use Rattle.bsi_slices.specs.PairRelations.{relation_holds, relation_bit_step}
use Rattle.bsi_slices.proofs.Related.{relation_place}
use Rattle.bsi_slices.proofs.SliceNumbers.{places_more}
use Rattle.bsi_kernels.specs.Places.{has_place}
use Rattle.bsi_columns.proofs.number_places.relate_numbers.Goals as goal

pub places-preserved : goal.places-preserved
places-preserved c = λ p x y near first second.
    let k = c.places.k in
    let relation = c.args.relation in
    c.step.ensures.bits p (omega arith)
    ∙ (λ i. relation_bit_step relation (first k c.places-test.true i) (second k (omega (arith, c.places-test.true, c.requires)) i) (c.places.invariant p x y near first second i))
    ∙ relation_place relation (x % 2 ^ k) (y % 2 ^ k) (2 ^ k) (has_place k x) (has_place k y) (mod_below x (2 ^ k) (pow_pos k)) (mod_below y (2 ^ k) (pow_pos k))
    ∙ ap₂ (relation_holds relation) (sym (places_more x k)) (sym (places_more y k))

-- each place is taken in
pub returns : goal.returns
returns c = λ p x y near below above first second.
    let all : c.places.k ≡ length c.args.first.now = omega (arith, c.places-test.false, c.places.auto.k-end) in
    c.places.invariant p x y near first second
    ∙ ap₂ (relation_holds c.args.relation) (ap (λ k. x % 2 ^ k) all ∙ mod-eq_of_lt below) (ap (λ k. y % 2 ^ k) all ∙ mod-eq_of_lt above)
