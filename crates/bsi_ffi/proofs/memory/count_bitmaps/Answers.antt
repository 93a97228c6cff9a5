use Rattle.std.proofs.Common.{◌+◌, ap, ap₂, sym, ◌∙◌, arith}
use Rattle.std.proofs.lemmas.List.Sums.{sum_by_more}
use Rattle.bsi_schema.specs.Columns.{no_column}
use Rattle.bsi_ffi.specs.Memory.{stored_bitmaps}
use Rattle.bsi_ffi.proofs.memory.count_bitmaps.Goals as goal

pub columns-preserved : goal.columns-preserved
columns-preserved c =
    let columns = c.args.schema.now.columns in
    let i = c.columns.c in
    record {
      count =
          ap₂ ◌+◌ c.columns.invariant.count (c.stored_bitmaps-count.ensures.count ∙ ap stored_bitmaps c.form.ensures.form)
          ∙ sym (sum_by_more (λ column. stored_bitmaps column.form) columns i no_column (omega (arith, c.columns-test.true, c.columns-c-end.ensures.columns)));
      few = omega (arith, c.columns.invariant.few, c.stored_bitmaps-count.ensures.few);
    }
