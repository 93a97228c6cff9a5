use Rattle.std.proofs.Common.{take}
use Rattle.bsi_syntax.specs.Notations.{AppendsText}
use Rattle.bsi_answers.specs.ReplyLines.{AreEntries}
use Rattle.bsi_answers.proofs.reply_lines.write_entries.Given as goal

-- the entries so far are written
abbrev pub invariant-entries : goal.invariant-entries
invariant-entries g l = AppendsText (AreEntries (g.N.Notation.number_texts l.notation) l.by (take l.at l.entries)) l.initial.line.items l.line.items
