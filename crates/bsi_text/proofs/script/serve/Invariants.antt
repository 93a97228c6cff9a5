use Rattle.csv.specs.Reading.{reader_state, source_of}
use Rattle.bsi_text.specs.Sessions.{phase_of}
use Rattle.bsi_input.specs.Sources.{IsPlainReader}
use Rattle.bsi_input.specs.Texts.{ForText}
use Rattle.bsi_input.proofs.Standing.{HasServed}
use Rattle.bsi_text.proofs.script.serve.Given as goal

-- so many records were read, and the lines of all of them were written or wait
abbrev pub invariant-records : goal.invariant-records
invariant-records g l = record {
  plain : IsPlainReader l.input;
  served : ForText (source_of (λ w. g.R.Read.remaining w.inner) l.initial.input) (λ bytes.
      HasServed (phase_of l.session) bytes (reader_state l.input) (source_of (λ w. g.R.Read.remaining w.inner) l.input) l.count
      (g.W.Write.contents l.initial.writer) (g.W.Write.contents l.writer) l.buffer.items);
}
