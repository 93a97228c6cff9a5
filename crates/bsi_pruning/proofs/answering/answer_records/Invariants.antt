use Rattle.std.proofs.Common.{◌≡◌, ◌≤◌, List, ℕ, None}
use Rattle.std.specs.Prelude.{IfSome}
use Rattle.csv.specs.Reading.{reader_state, source_of}
use Rattle.bsi_answers.specs.AskLines.{IsAskLineBy}
use Rattle.bsi_answers.proofs.Asking.{HasWritten}
use Rattle.bsi_input.specs.Formats.{max_records}
use Rattle.bsi_input.specs.Texts.{ForText}
use Rattle.bsi_pruning.specs.Named.{IsOpenOf}
use Rattle.bsi_pruning.proofs.answering.answer_records.Given as goal
use Rattle.bsi_rows.specs.Table.{Table}
use Rattle.bsi_storage.specs.ChosenFiles.{AreFileHeads}

-- the lines of the records so far were written, and the open columns are those of the file
abbrev pub invariant-rounds : goal.invariant-rounds
invariant-rounds g l = record {
  going : l.records.end ≡ None;
  counted : l.counter ≤ l.records.read_so_far;
  few : l.records.read_so_far ≤ max_records;
  open_of : IfSome l.columns (IsOpenOf (g.S.ReadAt.all_bytes l.file) l.heads.heads.items);
  stands : (t : Table) → (notes kinds : List ℕ) → AreFileHeads (g.S.ReadAt.all_bytes l.file) l.heads.heads.items t notes kinds
      → ForText (source_of (λ w. g.A.Read.remaining w.inner) l.initial.records.input) (λ bytes.
      HasWritten (IsAskLineBy l.grammar (g.V.Vocabulary.words l.vocabulary) (g.V.Notation.number_texts l.vocabulary) t.schema t.rows) bytes (reader_state l.records.input)
      (source_of (λ w. g.A.Read.remaining w.inner) l.records.input) l.records.read_so_far (g.W.Write.contents l.initial.writer) (g.W.Write.contents l.writer));
}
