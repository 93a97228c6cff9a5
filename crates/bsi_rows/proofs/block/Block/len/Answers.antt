use Rattle.std.proofs.Common.{◌≡◌, ◌<◌, length, true, ap, subst, arith}
use Rattle.std.proofs.lemmas.List.Elements.{All-get_or}
use Rattle.bsi_schema.specs.Columns.{fits}
use Rattle.bsi_rows.specs.RowBlocks.{cell_entry, RowBlock}
use Rattle.bsi_rows.specs.Table.{AreFitting, AreFrom}
use Rattle.bsi_rows.proofs.BlockRows.{length-rows_of_cells, All-rows_of_cells}
use Rattle.bsi_rows.proofs.block.Block.len.Goals as goal

pub returns-clause-len : goal.returns-clause-len
returns-clause-len c =
    let i = c.self.inside in
    let rows = length-rows_of_cells (length i.schema.value.columns) i.row_feeders.items (cell_entry i.limits.items i.numbers.items i.not_null.items) in
    omega (arith, c.len.ensures, rows, ap (λ b. length b.rows) c.self.view_is)

pub returns-clause-fitting : goal.returns-clause-fitting
returns-clause-fitting c =
    let i = c.self.inside in
    let columns = i.schema.value.columns in
    subst (λ (b : RowBlock). AreFitting b.schema.columns b.rows) c.self.view_is
    (All-rows_of_cells (length columns) i.row_feeders.items (cell_entry i.limits.items i.numbers.items i.not_null.items) (λ row. fits columns row.1 ≡ true) c.self.invariant.0.fitting)

pub returns-clause-from : goal.returns-clause-from
returns-clause-from c =
    let i = c.self.inside in
    subst (λ (b : RowBlock). AreFrom b.feeders b.rows) c.self.view_is
    (All-rows_of_cells (length i.schema.value.columns) i.row_feeders.items (cell_entry i.limits.items i.numbers.items i.not_null.items) (λ row. row.0 < i.feeders)
    (λ r below. All-get_or (λ feeder. feeder < i.feeders) i.row_feeders.items r 0 below c.self.invariant.0.from))
