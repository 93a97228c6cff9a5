use Rattle.std.proofs.Common.{◌≡◌, ◌+◌, ◌-◌, ◌*◌, ◌%◌, ◌<◌, ◌≤◌, ◌^◌, length, ap, ◌∙◌, arith, mod-eq_of_lt}
use Rattle.std.specs.Prelude.{sum_by}
use Rattle.std.specs.List.{items_where_true}
use Rattle.bsi_bits.specs.BitList.{in_words}
use Rattle.bsi_bits.specs.BitLists.{bits_at}
use Rattle.bsi_bits.proofs.InWords.{in_words-map}
use Rattle.bsi_kernels.specs.Places.{has_place}
use Rattle.bsi_kernels.proofs.BitmapReads.{read_bitmap}
use Rattle.bsi_kernels.proofs.DigitBlocks.{few_in_words, most_in_words}
use Rattle.bsi_kernels.proofs.PlaceSums.{place_sum_all, place_sum_more, place_sum_none, small_power, small_weight, twice_power}
use Rattle.bsi_kernels.proofs.sums.sum_in.Goals as goal

pub places-init : goal.places-init
places-init c = record {
  summed = λ numbers encoded. place_sum_none (in_words c.args.start c.args.end c.args.selection.now.bits) (in_words c.args.start c.args.end numbers);
  few = omega arith;
}

-- the vector of the place
place_is : (c : goal.After-from) → c.index-places-k.result.bits ≡ bits_at c.args.places.now c.places.k
place_is c = ap (λ r. r.bits) (read_bitmap c.args.places.now c.places.k c.index-places-k.result c.places-test.true c.index-places-k.is)

-- a count times its weight fits
small : (c : goal.After-from) → c.from.result * 2 ^ c.places.k ≤ 2 ^ 32 * 2 ^ c.places.k
small c =
    let bits = c.index-places-k.result.bits in
    let counted = few_in_words c.args.start c.args.end c.args.selection.now.bits bits (ap length (place_is c) ∙ c.requires.same c.places.k c.places-test.true) in
    small_weight c.from.result c.places.k (omega (arith, c.from.ensures, c.count_and_in.ensures, counted, c.requires.few_rows))

power : (c : goal.After-from) → 2 ^ c.places.k ≤ 2 ^ 62
power c = small_power c.places.k 62 (omega (arith, c.places-test.true, c.requires.few))

moved : (c : goal.After-from) → c.from.result * 2 ^ c.places.k % 2 ^ 128 ≡ c.from.result * 2 ^ c.places.k
moved c = let fits : c.from.result * 2 ^ c.places.k < 2 ^ 128 = omega (arith, small c, power c) in mod-eq_of_lt fits

pub overflow_add-sum : goal.overflow_add-sum
overflow_add-sum c = omega (arith, small c, power c, moved c, c.places.invariant.few)

pub places-preserved : goal.places-preserved
places-preserved c =
    let selection = in_words c.args.start c.args.end c.args.selection.now.bits in
    record {
      summed = λ numbers encoded.
          ap (λ w. c.places.sum + w) (moved c)
          ∙ place_sum_more selection (in_words c.args.start c.args.end numbers) c.places.k c.places.sum c.from.result (in_words c.args.start c.args.end c.index-places-k.result.bits)
          (ap (in_words c.args.start c.args.end) (place_is c ∙ encoded.each c.places.k c.places-test.true) ∙ in_words-map (has_place c.places.k) c.args.start c.args.end numbers)
          (c.places.invariant.summed numbers encoded) (c.from.ensures ∙ c.count_and_in.ensures);
      few = omega (arith, small c, moved c, twice_power c.places.k, c.places.invariant.few);
    }

-- all places are added
pub returns-clause-sum : goal.returns-clause-sum
returns-clause-sum c = λ numbers encoded below.
    let selection = in_words c.args.start c.args.end c.args.selection.now.bits in
    let ns = in_words c.args.start c.args.end numbers in
    let n = length c.args.places.now in
    let all : c.places.k ≡ n = omega arith in
    c.places.invariant.summed numbers encoded
    ∙ ap (λ k. sum_by (λ v. v % 2 ^ k) (items_where_true selection ns)) all
    ∙ place_sum_all selection ns n (most_in_words c.args.start c.args.end (2 ^ n - 1) numbers (λ k. let small = below k in omega arith))

pub returns-clause-few : goal.returns-clause-few
returns-clause-few c = omega (arith, c.places.invariant.few, small_power c.places.k 63 (omega (arith, c.places-test.false, c.requires.few)))
