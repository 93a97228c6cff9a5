use Rattle.std.proofs.Common.{length, ap, ◌∙◌}
use Rattle.bsi_rows.specs.RowBlocks.{no_block_rows, cell_entry}
use Rattle.bsi_rows.proofs.BlockRows.{rows_of_cells-none}
use Rattle.bsi_rows.proofs.block.Block.new.Goals as goal

pub returns : goal.returns
returns c =
    let none = rows_of_cells-none (length c.in_ok-shared.shared.value.columns) c.in_ok-row_feeders.row_feeders.items (cell_entry c.in_ok-limits.limits.items c.in_ok-numbers.numbers.items c.in_ok-not_null.not_null.items) c.in_ok-row_feeders.ensures.items in
    ap (λ rows. record { schema = c.in_ok-shared.shared.value; feeders = c.args.feeders; rows = rows }) none
    ∙ ap (λ schema. no_block_rows schema c.args.feeders) c.in_ok-shared.ensures
