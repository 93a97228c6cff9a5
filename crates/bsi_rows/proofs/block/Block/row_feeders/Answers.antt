use Rattle.std.proofs.Common.{length, ap, sym, ◌∙◌}
use Rattle.bsi_rows.specs.Rows.{feeders_of}
use Rattle.bsi_rows.specs.RowBlocks.{cell_entry}
use Rattle.bsi_rows.proofs.BlockRows.{feeders-rows_of_cells}
use Rattle.bsi_rows.proofs.block.Block.row_feeders.Goals as goal

pub returns : goal.returns
returns c =
    let i = c.self.inside in
    c.deref.ensures.value ∙ sym (feeders-rows_of_cells (length i.schema.value.columns) i.row_feeders.items (cell_entry i.limits.items i.numbers.items i.not_null.items))
    ∙ ap (λ b. feeders_of b.rows) c.self.view_is
