use Rattle.std.proofs.Common.{◌+◌, ◌*◌, ◌<◌, length, take, length-take, ◌∙◌, arith}
use Rattle.bsi_bits.specs.Packed.{bit_of}
use Rattle.bsi_slices.proofs.Related.{relation_next}
use Rattle.bsi_slices.proofs.StateWords.{no_row_in_prefix}
use Rattle.bsi_slices.proofs.slices.related.relate_numbers.Goals as goal

pub digits_of-digits-requires-clause-zeros : goal.digits_of-digits-requires-clause-zeros
digits_of-digits-requires-clause-zeros c = no_row_in_prefix (length c.args.state.now) c.no_rows-zeros.result c.no_rows-zeros.ensures.bits

pub digits_of-other-requires-clause-zeros : goal.digits_of-other-requires-clause-zeros
digits_of-other-requires-clause-zeros c = no_row_in_prefix (length c.args.state.now) c.no_rows-zeros.result c.no_rows-zeros.ensures.bits

pub places-preserved : goal.places-preserved
places-preserved c = record {
  long = c.step.ensures.long ∙ c.places.invariant.long;
  bits = λ p below.
      let r = 64 * c.args.at + p in
      let zeros = length-take (length c.args.state.now) c.no_rows-zeros.result in
      let here : p < 64 * length (take (length c.args.state.now) c.no_rows-zeros.result) = omega (arith, below, zeros, c.no_rows-zeros.ensures.long, c.requires.block) in
      c.step.ensures.bits p (omega (arith, below, c.places.invariant.long))
      ∙ relation_next c.args.relation c.args.slices.now c.args.others.now r c.places.place (bit_of c.digits_of-digits.result.now p) (bit_of c.digits_of-other.result.now p) (bit_of c.places.state p)
      (c.digits_of-digits.ensures.bits p here) (c.digits_of-other.ensures.bits p here) (c.places.invariant.bits p below);
}
