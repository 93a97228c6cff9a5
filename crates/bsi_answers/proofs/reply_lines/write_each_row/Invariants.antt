use Rattle.std.proofs.Common.{take}
use Rattle.bsi_rows.specs.Rows.{feeders_of}
use Rattle.bsi_syntax.specs.Notations.{AppendsText}
use Rattle.bsi_answers.specs.ReplyLines.{AreTexts, IsRowText}
use Rattle.bsi_answers.proofs.reply_lines.write_each_row.Given as goal

-- the texts of the rows so far were written
abbrev pub invariant-rows : goal.invariant-rows
invariant-rows g l =
    AppendsText (AreTexts (IsRowText (g.N.Notation.number_texts l.notation l.c) (feeders_of l.table.rows)) (take l.row-index l.rows)) l.initial.line.items l.line.items
