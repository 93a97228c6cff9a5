use Rattle.std.proofs.Common.{ℤ, subst}
use Rattle.std.specs.Int.{w128}
use Rattle.std.specs.Prelude.{codes}
use Rattle.std.proofs.lemmas.Int.{to_z-of_z}
use Rattle.std.proofs.lemmas.Result.{IfOk-weaker}
use Rattle.bsi_syntax.specs.Notations.{AppendsText}
use Rattle.bsi_answers.proofs.Written.{extended, number_line}
use Rattle.bsi_answers.proofs.reply_lines.write_number_line.Goals as goal

pub returns : goal.returns
returns g c =
    let number : AppendsText (g.N.Notation.number_texts c.args.notation.now c.args.c c.args.number) c.extend_from_slice.new.self.items c.write_number.new.line.items =
    subst (λ (n : ℤ). AppendsText (g.N.Notation.number_texts c.args.notation.now c.args.c n) c.extend_from_slice.new.self.items c.write_number.new.line.items)
    (to_z-of_z w128 c.args.number c.ranges.number) c.in_ok-write_number.ensures in
    IfOk-weaker c.extend_from_slice-2.result _ _
    (λ done ended. number_line (g.N.Notation.number_texts c.args.notation.now c.args.c) c.args.word.now c.args.number c.args.line.now.items _ _ _
    c.in_ok-extend_from_slice.ensures.items number ended)
    (extended c.extend_from_slice-2.result c.write_number.new.line.items (codes "\n") c.extend_from_slice-2.new.self.items c.extend_from_slice-2.ensures.items)
