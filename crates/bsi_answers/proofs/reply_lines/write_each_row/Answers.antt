use Rattle.std.proofs.Common.{arith}
use Rattle.bsi_rows.specs.Rows.{feeders_of}
use Rattle.bsi_answers.specs.ReplyLines.{IsRowText}
use Rattle.bsi_answers.proofs.Listed.{texts_all, texts_more, texts_none}
use Rattle.bsi_answers.proofs.reply_lines.write_each_row.Goals as goal

pub rows-init : goal.rows-init
rows-init g c =
    texts_none (IsRowText (g.N.Notation.number_texts c.args.notation.now c.args.c) (feeders_of c.args.table.now.rows)) c.args.line.now.items c.args.rows.now

pub rows-preserved : goal.rows-preserved
rows-preserved g c =
    texts_more (IsRowText (g.N.Notation.number_texts c.args.notation.now c.args.c) (feeders_of c.args.table.now.rows)) c.args.line.now.items c.args.rows.now
    c.rows.row-index _ c.rows.line.items c.write_row.new.line.items (omega arith) c.rows.invariant c.in_ok-write_row.ensures

pub returns : goal.returns
returns g c =
    texts_all (IsRowText (g.N.Notation.number_texts c.args.notation.now c.args.c) (feeders_of c.args.table.now.rows)) c.args.line.now.items c.args.rows.now
    c.rows.row-index c.rows.line.items (omega arith) c.rows.invariant
