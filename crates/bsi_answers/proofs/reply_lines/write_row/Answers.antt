use Rattle.std.proofs.Common.{refl}
use Rattle.std.proofs.lemmas.Result.{IfOk-weaker}
use Rattle.bsi_rows.specs.Rows.{feeders_of}
use Rattle.bsi_answers.specs.ReplyLines.{origin_text}
use Rattle.bsi_answers.proofs.Written.{row_written}
use Rattle.bsi_answers.proofs.reply_lines.write_row.Goals as goal

pub returns : goal.returns
returns g c =
    let feeders = feeders_of c.args.table.now.rows in
    IfOk-weaker c.write_row_number.result _ _
    (λ done it. row_written (g.N.Notation.number_texts c.args.notation.now c.args.c) feeders c.args.row.now (origin_text feeders c.args.row.now) c.args.line.now.items _ _
    (λ number is. record { number = number; number_is = is; text_is = refl }) c.in_ok-write_origin.ensures it) c.write_row_number.ensures
