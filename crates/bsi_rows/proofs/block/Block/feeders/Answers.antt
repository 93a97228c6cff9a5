use Rattle.std.proofs.Common.{◌<◌, length, subst}
use Rattle.std.proofs.lemmas.List.Elements.{All-get_or}
use Rattle.bsi_rows.specs.RowBlocks.{cell_entry, RowBlock}
use Rattle.bsi_rows.specs.Table.{AreFrom}
use Rattle.bsi_rows.proofs.BlockRows.{All-rows_of_cells}
use Rattle.bsi_rows.proofs.block.Block.feeders.Goals as goal

pub returns-clause-from : goal.returns-clause-from
returns-clause-from c =
    let i = c.self.inside in
    subst (λ (b : RowBlock). AreFrom b.feeders b.rows) c.self.view_is
    (All-rows_of_cells (length i.schema.value.columns) i.row_feeders.items (cell_entry i.limits.items i.numbers.items i.not_null.items) (λ row. row.0 < i.feeders)
    (λ r below. All-get_or (λ feeder. feeder < i.feeders) i.row_feeders.items r 0 below c.self.invariant.0.from))
