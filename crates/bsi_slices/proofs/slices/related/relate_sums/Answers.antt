use Rattle.std.proofs.Common.{◌≡◌, ◌+◌, ◌*◌, ◌<◌, ◌^◌, ◌&&◌, ◌||◌, length, take, length-take, ap, ap₂, sym, ◌∙◌, arith}
use Rattle.std.specs.Prelude.{if◌then◌else◌, nat_le}
use Rattle.std.proofs.lemmas.List.{take_all}
use Rattle.bsi_bits.specs.BitList.{differ}
use Rattle.bsi_bits.specs.Packed.{bit_of}
use Rattle.bsi_slices.specs.Slices.{number}
use Rattle.bsi_slices.specs.PairRelations.{relation_holds}
use Rattle.bsi_slices.proofs.Related.{carry_next, low, low_all, none_yet, sum_all, sums_next}
use Rattle.bsi_slices.proofs.SliceNumbers.{number_none}
use Rattle.bsi_slices.proofs.SliceSpans.{one_read}
use Rattle.bsi_slices.proofs.StateWords.{no_row_in_prefix}
use Rattle.bsi_slices.proofs.slices.related.relate_sums.Goals as goal

pub places-init : goal.places-init
places-init c =
    let n = length c.args.state.now in
    record {
      long = c.begin.ensures.long;
      carries_long = omega (arith, length-take n c.no_rows-carry.result, c.no_rows-carry.ensures.long, c.requires.block);
      sums_long = omega (arith, length-take n c.no_rows-sum.result, c.no_rows-sum.ensures.long, c.requires.block);
      carries = λ p below. no_row_in_prefix n c.no_rows-carry.result c.no_rows-carry.ensures.bits p ∙ sym (ap (nat_le 1) (none_yet c.args.slices.now c.args.more (64 * c.args.at + p)));
      bits = λ p below.
          c.begin.ensures.bits p below
          ∙ ap₂ (λ s n. relation_holds c.args.relation (low s 1) n) (sym (none_yet c.args.slices.now c.args.more (64 * c.args.at + p))) (sym (number_none (64 * c.args.at + p)));
    }

pub digits_of-digits-requires-clause-zeros : goal.digits_of-digits-requires-clause-zeros
digits_of-digits-requires-clause-zeros c = no_row_in_prefix (length c.args.state.now) c.no_rows-zeros.result c.no_rows-zeros.ensures.bits

pub digits_of-other-requires-clause-zeros : goal.digits_of-other-requires-clause-zeros
digits_of-other-requires-clause-zeros c = no_row_in_prefix (length c.args.state.now) c.no_rows-zeros.result c.no_rows-zeros.ensures.bits

pub places-preserved : goal.places-preserved
places-preserved c =
    let n = length c.args.state.now in
    let i = c.places.place in
    let more = c.args.more in
    let slices = c.args.slices.now in
    let others = c.args.others.now in
    let digits = c.digits_of-digits.result.now in
    let other = c.digits_of-other.result.now in
    let carry = c.places.carry in
    let zeros = length-take n c.no_rows-zeros.result in
    record {
      long = c.step.ensures.long ∙ c.places.invariant.long;
      carries_long = c.add_place.ensures.long ∙ c.places.invariant.carries_long;
      sums_long = c.add_place.auto.sum ∙ c.places.invariant.sums_long;
      carries = λ p below.
          let r = 64 * c.args.at + p in
          let here : p < 64 * length (take n c.no_rows-zeros.result) = omega (arith, below, zeros, c.no_rows-zeros.ensures.long, c.requires.block) in
          c.add_place.ensures.carry p (omega (arith, below, c.places.invariant.carries_long))
          ∙ ap (λ one. if one then bit_of digits p || bit_of carry p else bit_of digits p && bit_of carry p) (one_read more i)
          ∙ carry_next slices more r i (bit_of digits p) (bit_of carry p) (c.digits_of-digits.ensures.bits p here) (c.places.invariant.carries p below);
      bits = λ p below.
          let r = 64 * c.args.at + p in
          let here : p < 64 * length (take n c.no_rows-zeros.result) = omega (arith, below, zeros, c.no_rows-zeros.ensures.long, c.requires.block) in
          c.step.ensures.bits p (omega (arith, below, c.places.invariant.long))
          ∙ sums_next c.args.relation slices others more r i (bit_of c.add_place.new.sum p) (bit_of other p) (bit_of c.places.state p)
          (c.add_place.ensures.sum p (omega (arith, below, c.places.invariant.carries_long))
          ∙ ap₂ differ (ap₂ differ (c.digits_of-digits.ensures.bits p here) (c.places.invariant.carries p below)) (one_read more i))
          (c.digits_of-other.ensures.bits p here) (c.places.invariant.bits p below);
    }

pub returns-clause-bits : goal.returns-clause-bits
returns-clause-bits c = λ p below.
    let i = c.places.place in
    let end = c.places_of-place-end in
    let r = 64 * c.args.at + p in
    let all : i ≡ end.result = omega (arith, c.places-test.false, c.places.auto.place-end) in
    let sums = sum_all c.args.slices.now c.args.more r i (omega (arith, all, end.ensures.all)) (rw all end.ensures.sums) in
    c.places.invariant.bits p below
    ∙ ap₂ (relation_holds c.args.relation) (ap (λ s. low s (2 ^ i)) sums.0 ∙ low_all _ (2 ^ i) sums.1)
    (ap (λ s. number s r) (take_all i c.args.others.now (omega (arith, all, end.ensures.all))))
