use Rattle.std.proofs.lemmas.Result.{IfOk-weaker}
use Rattle.std.specs.Prelude.{codes}
use Rattle.bsi_answers.specs.ReplyLines.{IsGroupText}
use Rattle.bsi_answers.proofs.Written.{extended, list_line}
use Rattle.bsi_answers.proofs.reply_lines.write_groups.Goals as goal

pub returns : goal.returns
returns g c =
    IfOk-weaker c.extend_from_slice-2.result _ _
    (λ done ended. list_line (IsGroupText (g.N.Notation.number_texts c.args.notation.now) c.args.by.now c.args.c) (codes "groups") c.args.groups.now.groups
    c.args.line.now.items _ _ _ c.in_ok-extend_from_slice.ensures.items c.in_ok-write_each_group.ensures ended)
    (extended c.extend_from_slice-2.result c.write_each_group.new.line.items (codes "\n") c.extend_from_slice-2.new.self.items c.extend_from_slice-2.ensures.items)
