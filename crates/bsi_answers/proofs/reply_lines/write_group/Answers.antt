use Rattle.std.proofs.lemmas.Result.{IfOk-weaker}
use Rattle.bsi_answers.proofs.Written.{group_written}
use Rattle.bsi_answers.proofs.reply_lines.write_group.Goals as goal

pub returns : goal.returns
returns g c =
    IfOk-weaker c.write_value.result _ _
    (λ done answer. group_written (g.N.Notation.number_texts c.args.notation.now) c.args.by.now c.args.c
    (record { entries = c.args.group.entries.now; answer = c.args.group.answer.now }) c.args.line.now.items _ _ _ _
    c.in_ok-extend_from_slice.ensures.items c.in_ok-write_entries.ensures c.in_ok-extend_from_slice-2.ensures.items answer) c.write_value.ensures
