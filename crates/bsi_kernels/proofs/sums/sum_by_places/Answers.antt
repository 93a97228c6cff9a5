use Rattle.std.proofs.Common.{◌+◌, ◌^◌, ◌≤◌, arith}
use Rattle.std.proofs.lemmas.Nat.{mul-le}
use Rattle.bsi_kernels.proofs.DigitBlocks.{sum_all, sum_none, sum_on}
use Rattle.bsi_kernels.proofs.SelectedRows.{none_in_words}
use Rattle.bsi_kernels.proofs.sums.sum_by_places.Goals as goal

pub spans-init : goal.spans-init
spans-init c = record {
  within = omega arith;
  some = omega arith;
  short = omega arith;
  few = omega arith;
  summed = λ numbers encoded below same. sum_none c.args.selection.now.bits numbers same;
}

-- no number is added for the lines that have no row
pub spans-preserved : goal.spans-preserved
spans-preserved c =
    let at = c.spans.at in
    let start = c.span_from-span.result.start in
    let end = c.span_from-span.result.end in
    let selection = c.args.selection.now.bits in
    let further : at + 1 ≤ end = omega (arith, c.span_from-span.ensures.more c.spans-test.true) in
    record {
      within = c.span_from-span.ensures.within;
      some = c.next_most-most.ensures.0;
      short = c.next_most-most.ensures.1;
      few = omega (arith, c.spans.invariant.few, c.sum_in-sum.ensures.few, mul-le (at + 1) (2 ^ 95) end (2 ^ 95) further (omega arith));
      summed = λ numbers encoded below same.
          sum_on selection numbers same at start end c.spans.sum c.sum_in-sum.result c.span_from-span.ensures.forward.0 c.span_from-span.ensures.forward.1
          (c.spans.invariant.summed numbers encoded below same) (none_in_words at start selection numbers c.words-words.result.now c.words-words.ensures.places c.span_from-span.ensures.clear)
          (c.sum_in-sum.ensures.sum numbers encoded below);
    }

-- no word is left
pub returns : goal.returns
returns c = λ numbers encoded below same.
    sum_all c.args.selection.now.bits numbers same c.spans.at c.spans.sum (omega (arith, c.spans-test.false, c.words-words.ensures.few)) (c.spans.invariant.summed numbers encoded below same)
