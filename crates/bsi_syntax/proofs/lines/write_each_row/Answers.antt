use Rattle.std.proofs.Common.{arith}
use Rattle.std.proofs.Transfers.{starts_with_trans}
use Rattle.bsi_syntax.proofs.RowTexts.{rows_all, rows_more}
use Rattle.bsi_syntax.proofs.lines.write_each_row.Goals as goal

pub rows-preserved : goal.rows-preserved
rows-preserved c = record {
  written = rows_more c.args.rows.now c.rows.row-index _ c.args.line.now.items c.rows.line.items c.write_row.new.line.items (omega arith) c.in_ok-write_row.ensures.ok c.rows.invariant.written;
  begins = starts_with_trans c.write_row.new.line.items c.rows.line.items c.args.line.now.items c.write_row.ensures.begins c.rows.invariant.begins;
}

-- all rows were written
pub returns : goal.returns
returns c = record {
  ok = rows_all c.args.rows.now c.rows.row-index c.args.line.now.items c.rows.line.items (omega arith) c.rows.invariant.written;
  begins = c.rows.invariant.begins;
}
