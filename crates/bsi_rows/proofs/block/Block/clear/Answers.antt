use Rattle.std.proofs.Common.{length, ap, ◌∙◌}
use Rattle.bsi_rows.specs.RowBlocks.{emptied_block, cell_entry}
use Rattle.bsi_rows.proofs.BlockRows.{rows_of_cells-none}
use Rattle.bsi_rows.proofs.block.Block.clear.Goals as goal

pub returns : goal.returns
returns c =
    let i = c.self.inside in
    ap (λ rows. record { schema = i.schema.value; feeders = i.feeders; rows = rows })
    (rows_of_cells-none (length i.schema.value.columns) c.clear.new.self.items (cell_entry i.limits.items i.numbers.items c.fill.new.self.items) c.clear.ensures.items)
    ∙ ap emptied_block c.self.view_is
