use Rattle.std.proofs.Common.{◌≡◌, None, length, replicate, sym, ap, subst, ◌∙◌}
use Rattle.bsi_rows.specs.RowBlocks.{emptied_block, with_null_rows, RowBlock}
use Rattle.bsi_rows.specs.Rows.{feeders_of}
use Rattle.bsi_rows.specs.Table.{AreFitting}
use Rattle.bsi_ffi.proofs.ColumnInputs.{feeders-replicate, null_rows-fitting}
use Rattle.bsi_ffi.proofs.blocks.size_block.Goals as goal

-- the rows are of the feeder, and of nulls
pub returns-clause-from : goal.returns-clause-from
returns-clause-from c =
    let old = c.args.block.now in
    let is : c.push_nulls.new.self ≡ with_null_rows (emptied_block old) c.args.feeder c.args.count =
    c.push_nulls.ensures ∙ ap (λ (b : RowBlock). with_null_rows b c.args.feeder c.args.count) c.clear.ensures in
    ap (λ (b : RowBlock). feeders_of b.rows) is ∙ feeders-replicate c.args.count c.args.feeder (replicate (length old.schema.columns) None)

pub returns-clause-fitting : goal.returns-clause-fitting
returns-clause-fitting c =
    let old = c.args.block.now in
    let is : c.push_nulls.new.self ≡ with_null_rows (emptied_block old) c.args.feeder c.args.count =
    c.push_nulls.ensures ∙ ap (λ (b : RowBlock). with_null_rows b c.args.feeder c.args.count) c.clear.ensures in
    subst (λ (b : RowBlock). AreFitting b.schema.columns b.rows) (sym is) (null_rows-fitting old.schema.columns c.args.count c.args.feeder)
