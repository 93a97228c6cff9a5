use Rattle.std.proofs.Common.{◌≡◌, ℕ, ◌+◌, ◌*◌, ◌-◌, ◌/◌, ◌%◌, ◌^◌, ◌<◌, ◌≤◌, length, get_or, map, ap, sym, ◌∙◌, subst, arith}
use Rattle.std.specs.Prelude.{if◌then◌else◌, bit_and}
use Rattle.std.specs.Int.{bit_not, w64}
use Rattle.std.specs.Simd.Lanes.{zip2}
use Rattle.std.proofs.lemmas.Nat.{one_shl, pow_pos, pow-add, mul-le}
use Rattle.std.proofs.Math.Pow.{pow_mono}
use Rattle.bsi_bits.specs.Packed.{bit_of}
use Rattle.bsi_kernels.specs.Extremes.{is_no_worse, best_place}
use Rattle.bsi_kernels.proofs.ByPlaces.{place_read}
use Rattle.bsi_kernels.proofs.ExtremeSpans.{IsNearest, nearest_start, nearest_slice, nearest_extreme, next_small, place_small}
use Rattle.bsi_kernels.proofs.extremes.improve_by_places.Goals as goal

pub places-init : goal.places-init
places-init g c = record {
  nearest = λ numbers encoded below. nearest_start c.args.extreme (bit_of c.args.rows) (λ p. get_or numbers (64 * c.args.at + p) 0) (64 * g.row.N) (2 ^ length c.args.places.now)
      (c.has_row.ensures.some c.if-not-has_row.false) (λ p. below (64 * c.args.at + p));
  small = omega arith;
  better = λ none. absurd (omega (arith, none, c.requires.some));
}

-- the weight of the next place
weight : (i : ℕ) → i < 63 → 1 * 2 ^ i % 2 ^ 64 ≡ 2 ^ i
weight i low = one_shl i 64 (omega arith)

-- twice a number and a place stay within as many places
small_step : (number d i width above : ℕ) → d < 2 → above ≡ 2 ^ i * 2 → number * above + above ≤ 2 ^ width → (number * 2 + d) * 2 ^ i + 2 ^ i ≤ 2 ^ width
small_step number d i width above low above_is small =
    next_small number (2 ^ i) 2 d (2 ^ width) low (rw above_is at small)

module _ (number d place width : ℕ) (some : 0 < place) (within : place ≤ width) (few : width ≤ 63) (low : d < 2) (small : number * 2 ^ place + 2 ^ place ≤ 2 ^ width) where
  next : (number * 2 + d) * 2 ^ (place - 1) + 2 ^ (place - 1) ≤ 2 ^ width
  next =
      let up : place ≡ place - 1 + 1 = omega arith in
      small_step number d (place - 1) width (2 ^ place) low (ap (λ k. 2 ^ k) up ∙ pow-add 2 (place - 1) 1) small

  most : 2 ^ width ≤ 2 ^ 63
  most = pow_mono {i = width} {j = 63} few

  next_fits : (number * 2 + d) * (1 * 2 ^ (place - 1) % 2 ^ 64) + 1 * 2 ^ (place - 1) % 2 ^ 64 ≤ 2 ^ 63
  next_fits = rw (weight (place - 1) (omega (arith, few, within, some))) (omega (arith, next, most))

  number_fits : number * 2 + d < 2 ^ 64
  number_fits =
      let bound : (number * 2 + d) * 1 ≤ (number * 2 + d) * 2 ^ (place - 1) = mul-le (number * 2 + d) 1 (number * 2 + d) (2 ^ (place - 1)) (omega arith) (pow_pos (place - 1)) in
      omega (arith, bound, next, most)

pub overflow_add-number : goal.overflow_add-number
overflow_add-number g c =
    let fits = number_fits c.places.number c.place_of.result c.places.place (length c.args.places.now) c.places-test.true (omega (arith, c.places.auto.place))
    c.requires.few (rw c.place_of.ensures (place_small c.args.extreme c.has_row-is_met.result)) c.places.invariant.small in
    omega (arith, fits)

pub cannot_improve-requires-clause-small : goal.cannot_improve-requires-clause-small
cannot_improve-requires-clause-small g c =
    next_fits c.places.number c.place_of.result c.places.place (length c.args.places.now) c.places-test.true (omega (arith, c.places.auto.place))
    c.requires.few (rw c.place_of.ensures (place_small c.args.extreme c.has_row-is_met.result)) c.places.invariant.small

-- the best number so far leads those that begin so
pub returns-then-cannot_improve : goal.returns-then-cannot_improve
returns-then-cannot_improve g c = λ numbers encoded below p within there.
    let i : ℕ = c.places.place - 1 in
    let up : c.places.place ≡ i + 1 = omega (arith, c.places-test.true) in
    let number : ℕ → ℕ = λ p. get_or numbers (64 * c.args.at + p) 0 in
    let digits = c.span_at-digits.result in
    let met = c.has_row-is_met.result in
    let lower : IsNearest c.args.extreme (bit_of c.args.rows) number (64 * g.row.N) (2 ^ i) (c.places.number * 2 + best_place c.args.extreme met) (bit_of c.either-narrowed.result) =
    nearest_slice c.args.extreme (bit_of c.args.rows) number g.row.N i (2 ^ c.places.place) c.places.number c.places.narrowed digits c.and_maybe_not-first.result c.either-narrowed.result met
    (ap (λ k. 2 ^ k) up ∙ pow-add 2 i 1) (c.places.invariant.nearest numbers encoded below) c.places.auto.narrowed.0 c.span_at-digits.ensures.long c.span_at-digits.ensures.fits
    (λ p within. c.span_at-digits.ensures.places p within ∙ place_read c.args.places.now c.index-places-place.result i (omega (arith, c.places.auto.place, c.places-test.true)) c.index-places-place.is numbers encoded (64 * c.args.at + p))
    (c.and_maybe_not-first.ensures ∙ ap (λ b. if b then zip2 bit_and c.places.narrowed (map (bit_not w64) digits) else zip2 bit_and c.places.narrowed digits) c.is_least.ensures)
    (λ on. c.has_row-is_met.ensures.some on) (λ off. c.has_row-is_met.ensures.none off) c.either-narrowed.ensures in
    let low : i < 63 = omega (arith, c.places.auto.place, c.places-test.true, c.requires.few) in
    let first = lower.first p within there in
    let First : ℕ → ℕ → Type 0 = λ n w. is_no_worse c.args.extreme n (number p / w) in
    let begins : First (c.places.number * 2 + c.place_of.result) (1 * 2 ^ i % 2 ^ 64) = rw (c.place_of.ensures, weight i low) first in
    c.cannot_improve.ensures.no_worse c.if-cannot_improve.true (number p) begins

pub places-preserved : goal.places-preserved
places-preserved g c =
    let i : ℕ = c.places.place - 1 in
    let up : c.places.place ≡ i + 1 = omega (arith, c.places-test.true) in
    let digits = c.span_at-digits.result in
    let met = c.has_row-is_met.result in
    record {
      nearest = λ numbers encoded below.
          let number : ℕ → ℕ = λ p. get_or numbers (64 * c.args.at + p) 0 in
          let lower : IsNearest c.args.extreme (bit_of c.args.rows) number (64 * g.row.N) (2 ^ i) (c.places.number * 2 + best_place c.args.extreme met) (bit_of c.either-narrowed.result) =
          nearest_slice c.args.extreme (bit_of c.args.rows) number g.row.N i (2 ^ c.places.place) c.places.number c.places.narrowed digits c.and_maybe_not-first.result c.either-narrowed.result met
          (ap (λ k. 2 ^ k) up ∙ pow-add 2 i 1) (c.places.invariant.nearest numbers encoded below) c.places.auto.narrowed.0 c.span_at-digits.ensures.long c.span_at-digits.ensures.fits
          (λ p within. c.span_at-digits.ensures.places p within ∙ place_read c.args.places.now c.index-places-place.result i (omega (arith, c.places.auto.place, c.places-test.true)) c.index-places-place.is numbers encoded (64 * c.args.at + p))
          (c.and_maybe_not-first.ensures ∙ ap (λ b. if b then zip2 bit_and c.places.narrowed (map (bit_not w64) digits) else zip2 bit_and c.places.narrowed digits) c.is_least.ensures)
          (λ on. c.has_row-is_met.ensures.some on) (λ off. c.has_row-is_met.ensures.none off) c.either-narrowed.ensures in
          let AtNumber : ℕ → Type 0 = λ d. IsNearest c.args.extreme (bit_of c.args.rows) number (64 * g.row.N) (2 ^ i) (c.places.number * 2 + d) (bit_of c.either-narrowed.result) in
          subst AtNumber (sym c.place_of.ensures) lower;
      small = next c.places.number c.place_of.result c.places.place (length c.args.places.now) c.places-test.true (omega (arith, c.places.auto.place))
          c.requires.few (rw c.place_of.ensures (place_small c.args.extreme met)) c.places.invariant.small;
      better = λ none. c.cannot_improve.ensures.improves c.if-cannot_improve.false (weight i (omega (arith, none)) ∙ ap (λ k. 2 ^ k) none);
    }

-- no place is left
pub returns : goal.returns
returns g c = λ numbers encoded below.
    let none : c.places.place ≡ 0 = omega (arith, c.places-test.false) in (
      nearest_extreme c.args.extreme (bit_of c.args.rows) (λ p. get_or numbers (64 * c.args.at + p) 0) (64 * g.row.N) (2 ^ c.places.place) c.places.number (bit_of c.places.narrowed)
          (ap (λ k. 2 ^ k) none) (c.places.invariant.nearest numbers encoded below),
      c.places.invariant.better none,
    )
