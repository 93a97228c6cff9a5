use Rattle.std.proofs.Common.{◌≡◌, ap, ap₂, sym, ◌∙◌, arith, ◌+◌, ◌*◌, cond}
use Rattle.std.specs.Prelude.{◌&&◌, nat_lt, count_by, sum_by}
use Rattle.std.specs.List.{items_where_true}
use Rattle.std.specs.Simd.Lanes.{zip2}
use Rattle.bsi_components.proofs.EqualityReads.{lower_sum_more, lower_sum_none, lower_sum_all, small_product}
use Rattle.bsi_components.proofs.equality.reads.EqualityReads.sum_by_bitmaps.Goals as goal

pub digits-init : goal.digits-init
digits-init c = record {
  summed = sym (lower_sum_none c.args.selection.now.bits c.args.component.now.digits);
  few = omega arith;
}

-- each row that has the digit adds it
pub digits-preserved : goal.digits-preserved
digits-preserved c =
    let selection = c.args.selection.now.bits in
    record {
      summed =
          ap₂ (λ s n. s + c.digits.j * n) c.digits.invariant.summed (c.count_and.ensures ∙ ap (λ bits. count_by (λ b. b) (zip2 ◌&&◌ selection bits)) c.bitmap.ensures)
          ∙ lower_sum_more c.digits.j selection c.args.component.now.digits;
      few = omega (arith, small_product c.digits.j c.count_and.result (omega arith) c.count_and.type_inv);
    }

-- the digits below the base are all
pub returns : goal.returns
returns c =
    let selection = c.args.selection.now.bits in
    let ds = c.args.component.now.digits in
    let base = c.own_base-j-end.result in
    let last : c.digits.j ≡ base = omega arith in
    c.digits.invariant.summed ∙ ap (λ j. sum_by (λ v. cond (nat_lt v j) v 0) (items_where_true selection ds)) last
    ∙ lower_sum_all base selection ds (omega arith) (λ k. let below = c.own_base-j-end.ensures.below k in omega arith)
