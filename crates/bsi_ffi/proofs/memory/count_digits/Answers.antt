use Rattle.std.proofs.Common.{◌+◌, ap, ap₂, sym, ◌∙◌, arith}
use Rattle.std.proofs.lemmas.List.Sums.{sum_by_more}
use Rattle.bsi_ffi.specs.Memory.{stored_digit_bitmaps}
use Rattle.bsi_ffi.proofs.memory.count_digits.Goals as goal

pub bases-preserved : goal.bases-preserved
bases-preserved c =
    let bs = c.args.bases.now in
    let i = c.bases.i in
    let f = stored_digit_bitmaps c.args.is_range in
    record {
      count =
          ap₂ ◌+◌ c.bases.invariant.count (c.stored_digit_bitmaps-count.ensures.count ∙ ap f c.base.ensures.base)
          ∙ sym (sum_by_more f bs i 0 (omega (arith, c.bases-test.true, c.len-i-end.ensures.len)));
      few = omega (arith, c.bases.invariant.few, c.stored_digit_bitmaps-count.ensures.few);
    }
