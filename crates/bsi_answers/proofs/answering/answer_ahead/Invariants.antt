use Rattle.std.proofs.Common.{◌≡◌, ◌≤◌, None}
use Rattle.csv.specs.Reading.{reader_state, source_of}
use Rattle.bsi_input.specs.Formats.{max_records}
use Rattle.bsi_input.specs.Texts.{ForText}
use Rattle.bsi_answers.specs.AskLines.{IsAskLineBy}
use Rattle.bsi_answers.proofs.Asking.{HasWritten}
use Rattle.bsi_answers.proofs.answering.answer_ahead.Given as goal

-- the lines of the records so far were written
abbrev pub invariant-rounds : goal.invariant-rounds
invariant-rounds g l = record {
  going : l.records.end ≡ None;
  counted : l.counter ≤ l.records.read_so_far;
  few : l.records.read_so_far ≤ max_records;
  stands : ForText (source_of (λ w. g.A.Read.remaining w.inner) l.initial.records.input) (λ bytes.
      HasWritten (IsAskLineBy l.grammar (g.V.Vocabulary.words l.vocabulary) (g.V.Notation.number_texts l.vocabulary) l.table.schema l.table.rows) bytes (reader_state l.records.input)
      (source_of (λ w. g.A.Read.remaining w.inner) l.records.input) l.records.read_so_far (g.W.Write.contents l.initial.writer) (g.W.Write.contents l.writer));
}
