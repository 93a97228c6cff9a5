use Rattle.std.proofs.Common.{take}
use Rattle.bsi_syntax.specs.Notations.{AppendsText}
use Rattle.bsi_answers.specs.ReplyLines.{AreTexts, IsGroupText}
use Rattle.bsi_answers.proofs.reply_lines.write_each_group.Given as goal

-- the texts of the groups so far were written
abbrev pub invariant-groups : goal.invariant-groups
invariant-groups g l =
    AppendsText (AreTexts (IsGroupText (g.N.Notation.number_texts l.notation) l.by l.c) (take l.k l.groups.groups)) l.initial.line.items l.line.items
