use Rattle.std.proofs.Common.{ap, ap₂, sym, ◌∙◌, arith, ◌+◌, ◌≡◌}
use Rattle.std.specs.Prelude.{count_by, sum_by, min}
use Rattle.std.specs.List.{items_where_true}
use Rattle.std.specs.Simd.Lanes.{zip2}
use Rattle.bsi_bits.specs.BitList.{without}
use Rattle.bsi_components.proofs.RangeReads.{capped_sum_more, capped_sum_none, capped_sum_all}
use Rattle.bsi_components.proofs.range.reads.RangeReads.sum_by_bitmaps.Goals as goal

pub bitmaps-init : goal.bitmaps-init
bitmaps-init c = record {
  summed = sym (capped_sum_none c.args.selection.now.bits c.args.component.now.digits);
  few = omega arith;
}

-- the rows that the bitmap does not have count once more
pub bitmaps-preserved : goal.bitmaps-preserved
bitmaps-preserved c = record {
  summed =
      ap₂ (λ s n. s + n) c.bitmaps.invariant.summed (c.count_and_not.ensures ∙ ap (λ bits. count_by (λ b. b) (zip2 without c.args.selection.now.bits bits)) c.bitmap.ensures)
      ∙ capped_sum_more c.bitmaps.j c.args.selection.now.bits c.args.component.now.digits;
  few = omega arith;
}

-- each digit counts up to the greatest
pub returns : goal.returns
returns c =
    let top = c.top-j-end.result in
    let last : c.bitmaps.j ≡ top = omega arith in
    c.bitmaps.invariant.summed ∙ ap (λ j. sum_by (λ v. min v j) (items_where_true c.args.selection.now.bits c.args.component.now.digits)) last
    ∙ capped_sum_all top c.args.selection.now.bits c.args.component.now.digits c.top-j-end.ensures.most
