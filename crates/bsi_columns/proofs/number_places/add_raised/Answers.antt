use Rattle.std.proofs.Common.{◌≡◌, ℕ, ◌+◌, ◌-◌, ◌*◌, ◌<◌, ◌^◌, ◌&&◌, ◌||◌, [], length, get_or, set, length-set, inl, inr, ap, sym, ◌∙◌, rules, arith}
use Rattle.std.specs.Prelude.{if◌then◌else◌}
use Rattle.std.proofs.lemmas.Bool.{cases_eq}
use Rattle.std.proofs.lemmas.List.{get_or-set_same, get_or-set_other}
use Rattle.bsi_bits.specs.BitList.{differ}
use Rattle.bsi_bits.specs.Packed.{bit_of}
use Rattle.bsi_slices.proofs.StateWords.{no_row}
use Rattle.bsi_kernels.specs.Places.{has_place}
use Rattle.bsi_columns.specs.NumberPlaces.{IsNumberAt}
use Rattle.bsi_columns.proofs.PlaceSums.{low_place, no_carry_raised, raised_high, sum_carry, sum_place}
use Rattle.bsi_columns.proofs.number_places.add_raised.Goals as goal

pub places-init : goal.places-init
places-init c = record {
  long = search rules;
  carries = λ p x y near first second. no_row 16 p ∙ sym (no_carry_raised x y c.args.by);
  done = λ p x y near first second j low within. second j within ∙ sym (low_place x y c.args.by j low);
  rest = λ j past. search rules;
}

pub places-preserved : goal.places-preserved
places-preserved c =
    let k = c.places.k in
    let sums = c.places.sums in
    let by = c.args.by in
    let within : k < length sums = omega (arith, c.places-test.true, c.places.invariant.long) in
    let place = c.add_place-carry.new.sum in
    let more = c.args.more.now in
    let raised : (p x : ℕ) → IsNumberAt more p x → bit_of (get_or more (k - by) []) p ≡ has_place k (x * 2 ^ by) = λ p x first.
    first (k - by) (omega (arith, within, c.requires.same, c.places.invariant.long)) ∙ sym (raised_high x by k c.places.auto.k) in
    record {
      long = length-set sums k place ∙ c.places.invariant.long;
      carries = λ p x y near first second.
          let carry = bit_of c.places.carry p in
          let digits : bit_of (get_or sums k []) p ≡ has_place k y = ap (λ ws. bit_of ws p) (c.places.invariant.rest k (omega arith)) ∙ second k (omega (arith, within, c.places.invariant.long)) in
          c.add_place-carry.ensures.carry p near
          ∙ (λ i. if raised p x first i then digits i || c.places.invariant.carries p x y near first second i else digits i && c.places.invariant.carries p x y near first second i)
          ∙ sum_carry y (x * 2 ^ by) k;
      done = λ p x y near first second j below there. elim (cases_eq j k) [
        | inl same ↦
            let digits : bit_of (get_or sums k []) p ≡ has_place k y = ap (λ ws. bit_of ws p) (c.places.invariant.rest k (omega arith)) ∙ second k (omega (arith, within, c.places.invariant.long)) in
            ap (λ i. bit_of (get_or (set sums k place) i []) p) same
            ∙ ap (λ ws. bit_of ws p) (get_or-set_same sums k place [] within)
            ∙ c.add_place-carry.ensures.sum p near
            ∙ (λ i. differ (differ (digits i) (c.places.invariant.carries p x y near first second i)) (raised p x first i))
            ∙ sym (sum_place y (x * 2 ^ by) k) ∙ ap (λ i. has_place i (y + x * 2 ^ by)) (sym same)
        | inr other ↦ ap (λ ws. bit_of ws p) (get_or-set_other sums k j place [] other) ∙ c.places.invariant.done p x y near first second j (omega arith) there
      ];
      rest = λ j past. get_or-set_other sums k j place [] (omega arith) ∙ c.places.invariant.rest j (omega arith);
    }
