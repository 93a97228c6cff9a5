use Rattle.std.proofs.Common.{◌≡◌, ◌<◌, length, arith, ap, ◌∙◌}
use Rattle.bsi_schema.specs.Columns.{column_at}
use Rattle.bsi_table.specs.Bitmaps.{bitmap_count}
use Rattle.bsi_storage.proofs.BodyWords.{few_bitmaps, few_columns}
use Rattle.bsi_storage.proofs.RowCounts.{bitmaps_more}
use Rattle.bsi_storage.proofs.segment_head.count_bitmaps_before.Goals as goal

pub overflow_add-count : goal.overflow_add-count
overflow_add-count c =
    let schema = c.args.schema.now in
    let within : c.columns.k < length schema.columns = omega (arith, c.columns-test.true, c.requires) in
    let form = (column_at schema.columns c.columns.k).form in
    let many : c.count_bitmaps.result ≡ bitmap_count form = c.count_bitmaps.ensures ∙ ap bitmap_count c.form.ensures.form in
    omega (arith, c.columns.invariant.within, many, few_bitmaps form (c.limits.ensures.declared.each c.columns.k within).valid.form, few_columns schema c.limits.ensures.declared, within)

pub columns-preserved : goal.columns-preserved
columns-preserved c =
    let schema = c.args.schema.now in
    let within : c.columns.k < length schema.columns = omega (arith, c.columns-test.true, c.requires) in
    let form = (column_at schema.columns c.columns.k).form in
    let many : c.count_bitmaps.result ≡ bitmap_count form = c.count_bitmaps.ensures ∙ ap bitmap_count c.form.ensures.form in
    record {
      sum = omega (arith, c.columns.invariant.sum, many, bitmaps_more schema.columns c.columns.k within);
      within = omega (arith, c.columns.invariant.within, many, few_bitmaps form (c.limits.ensures.declared.each c.columns.k within).valid.form);
    }

pub returns-clause-within : goal.returns-clause-within
returns-clause-within c =
    let schema = c.args.schema.now in
    omega (arith, c.columns.invariant.within, few_columns schema c.limits.ensures.declared, c.requires, c.columns-test.false)
