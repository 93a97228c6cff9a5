use Rattle.std.proofs.Common.{map, take}
use Rattle.csv.specs.Records.{fields_of}
use Rattle.bsi_answers.specs.AskLines.{IsAskLineBy}
use Rattle.bsi_answers.specs.ReadAhead.{WritesLines}
use Rattle.bsi_answers.proofs.lines.write_answer_lines.Given as goal

-- the lines of the records so far were written
abbrev pub invariant-records : goal.invariant-records
invariant-records g l =
    WritesLines (IsAskLineBy l.grammar (g.V.Vocabulary.words l.vocabulary) (g.V.Notation.number_texts l.vocabulary) l.table.schema l.table.rows) (take l.k (map fields_of l.ahead))
    (g.W.Write.contents l.initial.writer) (g.W.Write.contents l.writer)
