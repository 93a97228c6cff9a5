use Rattle.std.proofs.Common.{None, length, arith}
use Rattle.std.proofs.lemmas.List.FromFn.{fill_by_all}
use Rattle.bsi_rows.specs.RowBlocks.{cell_entry, row_of_cells}
use Rattle.bsi_rows.proofs.cells.read_row.Goals as goal

pub returns : goal.returns
unfolding row_of_cells
returns c =
    fill_by_all (λ k. cell_entry c.args.limits.now c.args.numbers.now c.args.not_null.now k c.args.r) c.columns.entries.items (length c.args.limits.now) None
    (omega (arith, c.columns.invariant.long, c.columns-test.false, c.columns.auto.c-end))
    (λ k within. c.columns.invariant.row k (omega (arith, within, c.columns-test.false, c.columns.auto.c-end)))
