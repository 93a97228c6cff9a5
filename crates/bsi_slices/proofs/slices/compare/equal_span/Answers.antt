use Rattle.std.proofs.Common.{◌≡◌, ℕ, ◌+◌, ◌*◌, ◌-◌, ◌≤◌, ◌^◌, true, false, length, get_or, ap, sym, ◌∙◌, arith}
use Rattle.std.proofs.lemmas.List.{length-replicate}
use Rattle.bsi_bits.proofs.Reading.{all_set}
use Rattle.bsi_bits.specs.BitLists.{bits_at}
use Rattle.bsi_bits.specs.Packed.{bit_of}
use Rattle.bsi_kernels.proofs.BitmapReads.{read_bitmap}
use Rattle.bsi_slices.proofs.WordSpans.{replicate_bit}
use Rattle.bsi_slices.proofs.SliceNumbers.{equal_none, equal_all}
use Rattle.bsi_slices.proofs.SliceSpans.{equal_step, equal_long}
use Rattle.bsi_slices.proofs.slices.compare.equal_span.Goals as goal

pub slices-init : goal.slices-init
slices-init g c = record {
  long = length-replicate g.row.N (2 ^ 64 - 1);
  bits = λ p within. replicate_bit g.row.N (2 ^ 64 - 1) true all_set p within ∙ sym (equal_none c.args.constant (64 * c.args.at + p));
}

-- one more place decides
pub slices-preserved : goal.slices-preserved
slices-preserved g c =
    let slice : bits_at c.args.slices.now c.slices.place ≡ c.index-slices-place.result.bits =
    sym (ap (λ r. r.bits) (read_bitmap c.args.slices.now c.slices.place c.index-slices-place.result c.slices-test.true c.index-slices-place.is)) in
    let enough : c.args.at + g.row.N ≤ length c.words_of-words.result.now = omega (arith, c.requires.long c.slices.place c.slices-test.true, c.words_of-words.ensures.few, ap length slice) in
    let places : (i : ℕ) → bit_of c.words_of-words.result.now i ≡ get_or (bits_at c.args.slices.now c.slices.place) i false =
    λ i. c.words_of-words.ensures.places i ∙ ap (λ bits. get_or bits i false) (sym slice) in
    record {
      long = equal_long c.args.slices.now c.args.constant c.args.at g.row.N c.slices.place c.words_of-words.result.now c.slices-test.true enough places c.slices.equal c.slices.invariant.long c.and_maybe_not-equal.result c.and_maybe_not-equal.ensures;
      bits = equal_step c.args.slices.now c.args.constant c.args.at g.row.N c.slices.place c.words_of-words.result.now c.slices-test.true enough places c.words_of-words.ensures.fits c.slices.equal c.slices.invariant.long c.slices.invariant.bits c.and_maybe_not-equal.result c.and_maybe_not-equal.ensures;
    }

-- by all places
pub returns-clause-bits : goal.returns-clause-bits
returns-clause-bits g c = λ p within.
    c.slices.invariant.bits p within ∙ equal_all c.args.slices.now c.args.constant c.slices.place (64 * c.args.at + p) (omega arith) c.requires.below (omega arith)
