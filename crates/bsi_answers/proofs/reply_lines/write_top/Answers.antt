use Rattle.std.proofs.lemmas.Result.{IfOk-weaker}
use Rattle.std.specs.Prelude.{codes}
use Rattle.bsi_rows.specs.Rows.{feeders_of}
use Rattle.bsi_answers.specs.ReplyLines.{IsRowText}
use Rattle.bsi_answers.proofs.Written.{extended, list_line}
use Rattle.bsi_answers.proofs.reply_lines.write_top.Goals as goal

pub returns : goal.returns
returns g c =
    IfOk-weaker c.extend_from_slice-2.result _ _
    (λ done ended. list_line (IsRowText (g.N.Notation.number_texts c.args.notation.now c.args.c) (feeders_of c.args.table.now.rows)) (codes "top") c.args.rows.now
    c.args.line.now.items _ _ _ c.in_ok-extend_from_slice.ensures.items c.in_ok-write_each_row.ensures ended)
    (extended c.extend_from_slice-2.result c.write_each_row.new.line.items (codes "\n") c.extend_from_slice-2.new.self.items c.extend_from_slice-2.ensures.items)
