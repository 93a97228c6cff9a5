use Rattle.std.proofs.Common.{◌≡◌, ℕ, ◌+◌, ◌*◌, ◌%◌, ◌^◌, length, get_or, ap, ◌∙◌, arith}
use Rattle.bsi_bits.specs.Packed.{bit_of}
use Rattle.bsi_kernels.specs.Places.{at_most_step}
use Rattle.bsi_kernels.proofs.ByPlaces.{ordered_all, ordered_none, ordered_with, place_read}
use Rattle.bsi_kernels.proofs.WordSpans.{ordered_bit, ordered_long}
use Rattle.bsi_kernels.proofs.comparisons.order_span.Goals as goal

pub places-init : goal.places-init
places-init g c = record {
  long = c.fits-rows.0;
  bits = λ numbers encoded p within. ordered_none (bit_of c.args.rows p) (get_or numbers (64 * c.args.at + p) 0) c.args.constant;
}

-- one more place decides
pub places-preserved : goal.places-preserved
places-preserved g c =
    let i : ℕ = c.places.i in
    let digits = c.span_at-digits.result in
    record {
      long = ap length c.with_place-low.ensures ∙ ordered_long g.row.N c.places.low digits c.places.invariant.long c.span_at-digits.ensures.long _;
      bits = λ numbers encoded p within.
          let r : ℕ = 64 * c.args.at + p in
          ordered_with (bit_of c.args.rows p) (get_or numbers r 0) c.args.constant i (bit_of c.places.low p) (bit_of c.with_place-low.result p) (bit_of digits p)
          (c.places.invariant.bits numbers encoded p within)
          (c.span_at-digits.ensures.places p within ∙ place_read c.args.places.now c.index-places-i.result i c.places-test.true c.index-places-i.is numbers encoded r)
          (ap (λ ws. bit_of ws p) c.with_place-low.ensures ∙ ordered_bit g.row.N c.places.low digits c.places.invariant.long c.span_at-digits.ensures.long c.span_at-digits.ensures.fits _ p within);
    }

-- by all places
pub returns-clause-bits : goal.returns-clause-bits
returns-clause-bits g c = λ numbers encoded small p within.
    let all : c.places.i ≡ length c.args.places.now = omega (arith, c.places-test.false, c.places.auto.i-end) in
    let r : ℕ = 64 * c.args.at + p in
    c.places.invariant.bits numbers encoded p within
    ∙ (ap (λ i. at_most_step (bit_of c.args.rows p) (get_or numbers r 0 % 2 ^ i) (c.args.constant % 2 ^ i)) all
    ∙ ordered_all (bit_of c.args.rows p) (get_or numbers r 0) c.args.constant (length c.args.places.now) (small r) c.requires.below)
