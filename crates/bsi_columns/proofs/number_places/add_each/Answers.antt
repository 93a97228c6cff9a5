use Rattle.std.proofs.Common.{◌≡◌, ℕ, ◌+◌, ◌<◌, ◌&&◌, ◌||◌, [], length, get_or, set, length-set, inl, inr, ap, sym, ◌∙◌, rules, arith}
use Rattle.std.specs.Prelude.{◌==◌, if◌then◌else◌}
use Rattle.std.specs.Int.{bit_at}
use Rattle.std.proofs.lemmas.Bool.{cases_eq}
use Rattle.std.proofs.lemmas.List.{get_or-set_same, get_or-set_other}
use Rattle.bsi_bits.specs.BitList.{differ}
use Rattle.bsi_bits.specs.Packed.{bit_of}
use Rattle.bsi_bits.proofs.Reading.{all_set, none_set}
use Rattle.bsi_slices.proofs.StateWords.{no_row}
use Rattle.bsi_kernels.specs.Places.{has_place}
use Rattle.bsi_columns.specs.NumberPlaces.{IsNumberAt}
use Rattle.bsi_columns.proofs.PlaceSums.{no_carry, place_none, place_one, sum_carry, sum_place}
use Rattle.bsi_columns.proofs.WordSpans.{replicate_bit}
use Rattle.bsi_columns.proofs.number_places.add_each.Goals.{then-number-k-eq1, else-number-k-eq1}
use Rattle.bsi_columns.proofs.number_places.add_each.Goals as goal

pub places-init : goal.places-init
places-init c = record {
  long = search rules;
  carries = λ p x near first. no_row 16 p ∙ sym (no_carry x c.args.number);
  done = λ p x near first j below. absurd (omega arith);
  rest = λ j past. search rules;
}

pub places-preserved : goal.places-preserved
places-preserved c =
    let k = c.places.k in
    let sums = c.places.sums in
    let number = c.args.number in
    let within : k < length sums = omega (arith, c.places-test.true, c.places.invariant.long) in
    let place = c.add_place-carry.new.sum in
    let word = c.if-number-k-eq1.word in
    let alike : (r : ℕ) → r < 64 → (bit_at word r == 1) ≡ has_place k number = λ r low. elim c.if-number-k-eq1.branch [
      | then-number-k-eq1 w ↦ ap (λ a. bit_at a r == 1) w.word-is ∙ all_set r low ∙ sym (place_one number k w.if-number-k-eq1.true)
      | else-number-k-eq1 w ↦ ap (λ a. bit_at a r == 1) w.word-is ∙ none_set r low ∙ sym (place_none number k w.if-number-k-eq1.false)
    ] in
    let digits : (p x : ℕ) → IsNumberAt c.args.sums.now p x → bit_of (get_or sums k []) p ≡ has_place k x = λ p x first.
    ap (λ ws. bit_of ws p) (c.places.invariant.rest k (omega arith)) ∙ first k (omega (arith, within, c.places.invariant.long)) in
    record {
      long = length-set sums k place ∙ c.places.invariant.long;
      carries = λ p x near first.
          c.add_place-carry.ensures.carry p near
          ∙ (λ i. if replicate_bit 16 word (has_place k number) alike p near i then digits p x first i || c.places.invariant.carries p x near first i else digits p x first i && c.places.invariant.carries p x near first i)
          ∙ sum_carry x number k;
      done = λ p x near first j below. elim (cases_eq j k) [
        | inl same ↦
            ap (λ i. bit_of (get_or (set sums k place) i []) p) same
            ∙ ap (λ ws. bit_of ws p) (get_or-set_same sums k place [] within)
            ∙ c.add_place-carry.ensures.sum p near
            ∙ (λ i. differ (differ (digits p x first i) (c.places.invariant.carries p x near first i)) (replicate_bit 16 word (has_place k number) alike p near i))
            ∙ sym (sum_place x number k) ∙ ap (λ i. has_place i (x + number)) (sym same)
        | inr other ↦ ap (λ ws. bit_of ws p) (get_or-set_other sums k j place [] other) ∙ c.places.invariant.done p x near first j (omega arith)
      ];
      rest = λ j past. get_or-set_other sums k j place [] (omega arith) ∙ c.places.invariant.rest j (omega arith);
    }
