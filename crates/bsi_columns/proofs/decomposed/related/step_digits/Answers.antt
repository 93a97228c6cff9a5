use Rattle.std.proofs.Common.{◌≡◌, ℕ, ◌+◌, ◌*◌, ◌<◌, ◌^◌, length, length-take, get_or, take, replicate, ◌∙◌, arith}
use Rattle.std.proofs.Math.Nat.{le_antisymm}
use Rattle.std.proofs.lemmas.List.{length-replicate}
use Rattle.bsi_bits.specs.Packed.{bit_of}
use Rattle.bsi_columns.proofs.DigitRelations.{no_places, places_next, all_places}
use Rattle.bsi_columns.proofs.decomposed.related.step_digits.Goals as goal

pub places-init : goal.places-init
places-init g c = λ p below row.
    no_places c.args.relation (bit_of c.args.state.now p) (get_or (g.E.Encoding.digits c.args.first.now) (64 * c.args.at + p) 0) (get_or (g.F.Encoding.digits c.args.second.now) (64 * c.args.at + p) 0)

pub places-preserved : goal.places-preserved
places-preserved g c = λ p below row.
    let r = 64 * c.args.at + p in
    let n = length c.args.state.now in
    let prefix : length {A = ℕ} (take n (replicate 512 0)) ≡ n = length-take {A = ℕ} n (replicate 512 0) ∙ omega (arith, length-replicate {A = ℕ} 512 0, c.requires.block) in
    c.step.ensures.bits p (omega (arith, below, c.places.auto.state))
    ∙ places_next c.args.relation (bit_of c.args.state.now p) (get_or (g.E.Encoding.digits c.args.first.now) r 0) (get_or (g.F.Encoding.digits c.args.second.now) r 0) c.places.k
    (bit_of c.place_span.new.span p) (bit_of c.place_span-in-places.new.span p) (bit_of c.places.state p)
    (c.place_span.ensures p (omega (arith, below, c.places.auto.digits, prefix)) row)
    (c.place_span-in-places.ensures p (omega (arith, below, c.places.auto.other, prefix)) (omega (arith, row, c.requires.same))) (c.places.invariant p below row)

-- each place is taken in
pub returns-clause-bits : goal.returns-clause-bits
returns-clause-bits g c = λ p below row.
    let r = 64 * c.args.at + p in
    let x = get_or (g.E.Encoding.digits c.args.first.now) r 0 in
    let y = get_or (g.F.Encoding.digits c.args.second.now) r 0 in
    let n = c.place_count-k-end.result in
    let first : x < 2 ^ n = omega (arith, c.base-3.ensures.below r, c.base-3.ensures.base, c.place_count-k-end.ensures.enough) in
    let second : y < 2 ^ n = omega (arith, c.base.ensures.below r, c.requires.base, c.base-3.ensures.base, c.place_count-k-end.ensures.enough) in
    c.places.invariant p below row
    ∙ all_places c.args.relation (bit_of c.args.state.now p) x y c.places.k n (le_antisymm c.places.auto.k-end c.places-test.false) first second
