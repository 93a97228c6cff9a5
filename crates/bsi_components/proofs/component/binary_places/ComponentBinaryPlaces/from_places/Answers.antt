use Rattle.std.proofs.Common.{◌≡◌, ℕ, ◌+◌, ◌-◌, ◌^◌, ◌<◌, ◌≤◌, Bool, List, length, map, get_or, ap, sym, ◌∙◌, subst, refl, arith}
use Rattle.bsi_bits.specs.BitList.{BitList}
use Rattle.bsi_bits.specs.BitLists.{bits_at}
use Rattle.bsi_components.specs.Bitmaps.{stored_places}
use Rattle.bsi_components.specs.PlaceNumbers.{numbers_in, place_count}
use Rattle.bsi_components.specs.Encodings.{IsMarked}
use Rattle.bsi_components.proofs.Built.{marked_built, built_even, IsStoredCount}
use Rattle.bsi_components.proofs.PlaceCounts.{count_few, count_enough, stored_all}
use Rattle.bsi_components.proofs.PlaceNumbers.{places_are}
use Rattle.bsi_components.proofs.MarkedDigits.{marked_digits, itself_marked}
use Rattle.bsi_components.proofs.component.binary_places.ComponentBinaryPlaces.from_places.Goals as goal

pub are_below-requires-clause-few : goal.are_below-requires-clause-few
are_below-requires-clause-few g c = omega (arith, count_few c.args.base c.requires.base, c.requires.count, ap length c.deref.ensures.value)

pub are_below-requires-clause-enough : goal.are_below-requires-clause-enough
are_below-requires-clause-enough g c =
    let many : place_count c.args.base ≡ length c.deref.result.now = sym (ap length c.deref.ensures.value ∙ c.requires.count) in
    subst (λ (k : ℕ). c.args.base ≤ 2 ^ k) many (count_enough c.args.base c.requires.base)

pub make_bitmaps-requires-clause-few : goal.make_bitmaps-requires-clause-few
make_bitmaps-requires-clause-few g c = omega (arith, count_few c.args.base c.requires.base, c.requires.count, ap length c.deref-2.ensures.value)

pub make_bitmaps-requires-clause-enough : goal.make_bitmaps-requires-clause-enough
make_bitmaps-requires-clause-enough g c =
    let many : place_count c.args.base ≡ length c.deref-2.result.now = sym (ap length c.deref-2.ensures.value ∙ c.requires.count) in
    subst (λ (k : ℕ). c.args.base ≤ 2 ^ k) many (count_enough c.args.base c.requires.base)

-- all places are kept if any are
many_stored : (base stored n : ℕ) → stored ≡ stored_places base → n ≡ place_count base → 0 < stored → stored ≡ n
many_stored base stored n is long some = is ∙ stored_all base (omega (arith, is, some)) ∙ sym long

-- the bitmaps by the places that were passed
same_bits : (f : ℕ → ℕ → Bool) (n : ℕ) (made old places : List BitList) → old ≡ places → ((j : ℕ) → j < n → bits_at made j ≡ map (f j) (numbers_in old)) → (j : ℕ) → j < n → bits_at made j ≡ map (f j) (numbers_in places)
same_bits f n made old places same bits j below = bits j below ∙ ap (λ ps. map (f j) (numbers_in ps)) same

same_below : (base : ℕ) (old places : List BitList) → old ≡ places → ((k : ℕ) → get_or (numbers_in old) k 0 < base) → (k : ℕ) → get_or (numbers_in places) k 0 < base
same_below base old places same below k = omega (arith, below k, ap (λ ps. get_or (numbers_in ps) k 0) same)

pub from_vectors-bitmaps-requires-clause-even : goal.from_vectors-bitmaps-requires-clause-even
from_vectors-bitmaps-requires-clause-even g c =
    let places = c.args.places.items in
    let made = c.in_ok-made.made.items in
    let stored = c.stored_places-stored.result in
    let first = g.M.Marking.first c.args.base in
    let own = c.args.base - first in
    let holds : ℕ → ℕ → Bool = λ j v. g.M.Marking.marks (first + j) v in
    let low = g.met.M.Marking.sound.low c.args.base in
    let bits = same_bits holds own made c.deref-2.result.now places c.deref-2.ensures.value c.in_ok-made.ensures.bits in
    let even = built_even own stored holds made places (numbers_in places) c.in_ok-made.ensures.count bits (places_are places c.requires.level) (many_stored c.args.base stored (length places) c.stored_places-stored.ensures.count c.requires.count) (omega (arith, low, c.requires.base.0)) in
    subst (λ (vs : List BitList). (j : ℕ) → j < length vs → length (bits_at vs j) ≡ length (bits_at vs 0)) (sym c.with_places.ensures) even

-- the vectors are those of the numbers
pub invariant_of-result : goal.invariant_of-result
invariant_of-result g c =
    let places = c.args.places.items in
    let made = c.in_ok-made.made.items in
    let stored = c.stored_places-stored.result in
    let first = g.M.Marking.first c.args.base in
    let bits = same_bits (λ j v. g.M.Marking.marks (first + j) v) (c.args.base - first) made c.deref-2.result.now places c.deref-2.ensures.value c.in_ok-made.ensures.bits in
    let counts = c.stored_places-stored.ensures in
    let count : IsStoredCount c.args.base stored = record { stored_is = counts.count; few = counts.few; enough = counts.enough; some = counts.some } in
    let below = same_below c.args.base c.deref.result.now places c.deref.ensures.value (c.in_ok-are_below.ensures.all c.if-not-branch.false) in
    let is = marked_built g.M.Marking.first g.M.Marking.marks c.args.base stored made places (numbers_in places) c.requires.base count c.in_ok-made.ensures.count bits (places_are places c.requires.level) (many_stored c.args.base stored (length places) counts.count c.requires.count) below in
    itself_marked g.met.M.Marking.sound (subst (λ (vs : List BitList). IsMarked g.M.Marking.first g.M.Marking.marks c.args.base vs (numbers_in places)) (sym (c.from_vectors-bitmaps.ensures ∙ c.with_places.ensures)) is)

pub returns-clause-made : goal.returns-clause-made
returns-clause-made g c =
    let places = c.args.places.items in
    let made = c.in_ok-made.made.items in
    let stored = c.stored_places-stored.result in
    let first = g.M.Marking.first c.args.base in
    let bits = same_bits (λ j v. g.M.Marking.marks (first + j) v) (c.args.base - first) made c.deref-2.result.now places c.deref-2.ensures.value c.in_ok-made.ensures.bits in
    let counts = c.stored_places-stored.ensures in
    let count : IsStoredCount c.args.base stored = record { stored_is = counts.count; few = counts.few; enough = counts.enough; some = counts.some } in
    let below = same_below c.args.base c.deref.result.now places c.deref.ensures.value (c.in_ok-are_below.ensures.all c.if-not-branch.false) in
    let is = marked_built g.M.Marking.first g.M.Marking.marks c.args.base stored made places (numbers_in places) c.requires.base count c.in_ok-made.ensures.count bits (places_are places c.requires.level) (many_stored c.args.base stored (length places) counts.count c.requires.count) below in
    (refl, sym (marked_digits g.met.M.Marking.sound (subst (λ (vs : List BitList). IsMarked g.M.Marking.first g.M.Marking.marks c.args.base vs (numbers_in places)) (sym (c.from_vectors-bitmaps.ensures ∙ c.with_places.ensures)) is)))
