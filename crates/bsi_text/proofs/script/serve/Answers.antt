use Rattle.std.proofs.Common.{true, false, ◌++◌, rules}
use Rattle.csv.specs.Reading.{ReadRecord, source_of}
use Rattle.csv.specs.Records.{fields_of}
use Rattle.bsi_input.specs.Scripts.{IsTurn}
use Rattle.bsi_text.specs.Sessions.{phase_of}
use Rattle.bsi_input.specs.Texts.{ForText, WroteWholeLines}
use Rattle.bsi_input.specs.BufferedOutput.{AppendsAllBut, HoldsAfterFlush}
use Rattle.bsi_text.specs.declared.script.ScriptFault.TheVariants as fault
use Rattle.bsi_input.specs.declared.record_aware.RecordAwareReader.{RecordAwareReader}
use Rattle.bsi_input.proofs.Standing.{if_err, served_answered, served_cut, served_first, served_long, served_next, served_part, served_stopped, served_way}
use Rattle.bsi_input.proofs.Waiting.{cut_end}
use Rattle.bsi_text.proofs.script.serve.Goals as goal

-- nothing was read yet
pub records-init : goal.records-init
records-init g c =
    record {
      plain = c.requires.plain;
      served = λ bytes left. served_first _ bytes _ _ (g.W.Write.contents c.args.writer.now) _ c.requires.first c.requires.start left c.requires.none;
    }

-- a first part of what waited was written
pub returns-in_err-flush_unless_buffered-clause-prefix : goal.returns-in_err-flush_unless_buffered-clause-prefix
returns-in_err-flush_unless_buffered-clause-prefix g c =
    λ bytes left after cut.
    served_cut _ bytes _ _ _ _ _ _ (c.records.invariant.served bytes left) after
    (cut_end _ (g.W.Write.contents c.flush_unless_buffered.new.writer) after _ c.flush_unless_buffered.new.buffer.items c.in_err-flush_unless_buffered.ensures.prefix c.in_err-flush_unless_buffered.ensures.none cut)

-- whole lines were written, or wait
pub returns-in_err-read_next-clause-whole : goal.returns-in_err-read_next-clause-whole
returns-in_err-read_next-clause-whole g c =
    let whole : ForText (source_of (λ w. g.R.Read.remaining w.inner) c.args.input.now) (λ bytes. HoldsAfterFlush (g.W.Write.contents c.flush_unless_buffered.new.writer) c.flush_unless_buffered.new.buffer.items (WroteWholeLines bytes (g.W.Write.contents c.args.writer.now))) =
    λ bytes left. served_stopped _ bytes _ _ _ _ _ _ (served_way _ bytes _ _ _ _ _ _ (c.records.invariant.served bytes left) (g.W.Write.contents c.flush_unless_buffered.new.writer) c.flush_unless_buffered.new.buffer.items c.in_ok-flush_unless_buffered.ensures.ok) in
    if_err fault.Write c.from_residual-in_err-read_next.result whole

-- so they are whatever part of them is written
pub returns-in_err-read_next-clause-prefix : goal.returns-in_err-read_next-clause-prefix
returns-in_err-read_next-clause-prefix g c =
    λ bytes left. served_cut _ bytes _ _ _ _ _ _ (served_way _ bytes _ _ _ _ _ _ (c.records.invariant.served bytes left) (g.W.Write.contents c.flush_unless_buffered.new.writer) c.flush_unless_buffered.new.buffer.items c.in_ok-flush_unless_buffered.ensures.ok)

-- a first part of what waited was written
pub returns-in_err-flush_unless_buffered-2-clause-prefix : goal.returns-in_err-flush_unless_buffered-2-clause-prefix
returns-in_err-flush_unless_buffered-2-clause-prefix g c =
    λ bytes left after cut.
    served_cut _ bytes _ _ _ _ _ _ (c.records.invariant.served bytes left) after
    (cut_end _ (g.W.Write.contents c.flush_unless_buffered-2.new.writer) after _ c.flush_unless_buffered-2.new.buffer.items c.in_err-flush_unless_buffered-2.ensures.prefix c.in_err-flush_unless_buffered-2.ensures.none cut)

-- whole lines were written, or wait
pub returns-in_err-read_next-2-clause-whole : goal.returns-in_err-read_next-2-clause-whole
returns-in_err-read_next-2-clause-whole g c =
    let whole : ForText (source_of (λ w. g.R.Read.remaining w.inner) c.args.input.now) (λ bytes. HoldsAfterFlush (g.W.Write.contents c.flush_unless_buffered-2.new.writer) c.flush_unless_buffered-2.new.buffer.items (WroteWholeLines bytes (g.W.Write.contents c.args.writer.now))) =
    λ bytes left. served_stopped _ bytes _ _ _ _ _ _ (served_way _ bytes _ _ _ _ _ _ (c.records.invariant.served bytes left) (g.W.Write.contents c.flush_unless_buffered-2.new.writer) c.flush_unless_buffered-2.new.buffer.items c.in_ok-flush_unless_buffered-2.ensures.ok) in
    if_err fault.Write c.from_residual-in_err-read_next-2.result whole

-- so they are whatever part of them is written
pub returns-in_err-read_next-2-clause-prefix : goal.returns-in_err-read_next-2-clause-prefix
returns-in_err-read_next-2-clause-prefix g c =
    λ bytes left. served_cut _ bytes _ _ _ _ _ _ (served_way _ bytes _ _ _ _ _ _ (c.records.invariant.served bytes left) (g.W.Write.contents c.flush_unless_buffered-2.new.writer) c.flush_unless_buffered-2.new.buffer.items c.in_ok-flush_unless_buffered-2.ensures.ok)

-- there is no more
pub returns-then-not-branch-clause-ok : goal.returns-then-not-branch-clause-ok
returns-then-not-branch-clause-ok g c =
    let none : ReadRecord (λ w. g.R.Read.remaining w.inner) c.records.input c.read_next.new.input false (fields_of c.read_next.new.fields) = search rules in
    λ bytes left.
    served_answered (λ (w : RecordAwareReader g.row.R.Denot). g.R.Read.remaining w.inner) c.records.input c.read_next.new.input (fields_of c.read_next.new.fields) (phase_of c.records.session) bytes _ _ _ _ (served_way _ bytes _ _ _ _ _ _ (c.records.invariant.served bytes left) (g.W.Write.contents c.flush_unless_buffered.new.writer) c.flush_unless_buffered.new.buffer.items c.in_ok-flush_unless_buffered.ensures.ok) c.records.invariant.plain.config none (search rules)

-- of all lines a first part is written
pub returns-then-not-branch-clause-prefix : goal.returns-then-not-branch-clause-prefix
returns-then-not-branch-clause-prefix g c =
    λ bytes left. served_cut _ bytes _ _ _ _ _ _ (served_way _ bytes _ _ _ _ _ _ (c.records.invariant.served bytes left) (g.W.Write.contents c.flush_unless_buffered.new.writer) c.flush_unless_buffered.new.buffer.items c.in_ok-flush_unless_buffered.ensures.ok)

-- the lines before this record were written, or wait
pub returns-in_err-answer-clause-whole : goal.returns-in_err-answer-clause-whole
returns-in_err-answer-clause-whole g c =
    let whole : ForText (source_of (λ w. g.R.Read.remaining w.inner) c.args.input.now) (λ bytes. HoldsAfterFlush (g.W.Write.contents c.flush_unless_buffered.new.writer) c.flush_unless_buffered.new.buffer.items (WroteWholeLines bytes (g.W.Write.contents c.args.writer.now))) =
    λ bytes left. served_stopped _ bytes _ _ _ _ _ _ (served_way _ bytes _ _ _ _ _ _ (c.records.invariant.served bytes left) (g.W.Write.contents c.flush_unless_buffered.new.writer) c.flush_unless_buffered.new.buffer.items c.in_ok-flush_unless_buffered.ensures.ok) in
    if_err fault.Write c.from_residual-in_err-answer.result whole

-- so they are whatever part of them is written
pub returns-in_err-answer-clause-prefix : goal.returns-in_err-answer-clause-prefix
returns-in_err-answer-clause-prefix g c =
    λ bytes left. served_cut _ bytes _ _ _ _ _ _ (served_way _ bytes _ _ _ _ _ _ (c.records.invariant.served bytes left) (g.W.Write.contents c.flush_unless_buffered.new.writer) c.flush_unless_buffered.new.buffer.items c.in_ok-flush_unless_buffered.ensures.ok)

-- a first part of what waited and of the line was written
pub returns-in_err-buffer_line-clause-prefix : goal.returns-in_err-buffer_line-clause-prefix
returns-in_err-buffer_line-clause-prefix g c =
    let found : ReadRecord (λ w. g.R.Read.remaining w.inner) c.records.input c.read_next.new.input true (fields_of c.read_next.new.fields) = search rules in
    let turn : IsTurn (phase_of c.records.session) (fields_of c.read_next.new.fields) c.answer.new.line.items (phase_of c.answer.new.self) = search rules in
    λ bytes left after cut.
    served_part (λ w. g.R.Read.remaining w.inner) c.records.input c.read_next.new.input (fields_of c.read_next.new.fields) (phase_of c.records.session) bytes _ _ _ _
    (served_way _ bytes _ _ _ _ _ _ (c.records.invariant.served bytes left) (g.W.Write.contents c.flush_unless_buffered.new.writer) c.flush_unless_buffered.new.buffer.items c.in_ok-flush_unless_buffered.ensures.ok) c.records.invariant.plain.config
    (phase_of c.answer.new.self) c.answer.new.line.items after found turn
    (cut_end _ (g.W.Write.contents c.buffer_line.new.writer) after _ c.buffer_line.new.buffer.items (search rules) c.in_err-buffer_line.ensures.none cut)

-- one more record was read, and its line waits or was written
pub records-preserved : goal.records-preserved
records-preserved g c =
    let found : ReadRecord (λ w. g.R.Read.remaining w.inner) c.records.input c.read_next.new.input true (fields_of c.read_next.new.fields) = search rules in
    let turn : IsTurn (phase_of c.records.session) (fields_of c.read_next.new.fields) c.answer.new.line.items (phase_of c.answer.new.self) = search rules in
    let put : AppendsAllBut (g.W.Write.contents c.flush_unless_buffered.new.writer) (g.W.Write.contents c.buffer_line.new.writer) c.buffer_line.new.buffer.items (c.flush_unless_buffered.new.buffer.items ++ c.answer.new.line.items) = search rules in
    record {
      plain = search rules;
      served = λ bytes left.
          served_next (λ w. g.R.Read.remaining w.inner) c.records.input c.read_next.new.input (fields_of c.read_next.new.fields) (phase_of c.records.session) bytes _ _ _ _
          (served_way _ bytes _ _ _ _ _ _ (c.records.invariant.served bytes left) (g.W.Write.contents c.flush_unless_buffered.new.writer) c.flush_unless_buffered.new.buffer.items c.in_ok-flush_unless_buffered.ensures.ok) c.records.invariant.plain.config
          (phase_of c.answer.new.self) c.answer.new.line.items (g.W.Write.contents c.buffer_line.new.writer) c.buffer_line.new.buffer.items found turn put;
    }

-- there is one more than may be
pub returns-then-branch-clause-too_long : goal.returns-then-branch-clause-too_long
returns-then-branch-clause-too_long g c =
    let found : ReadRecord (λ w. g.R.Read.remaining w.inner) c.records.input c.read_next-2.new.input true (fields_of c.read_next-2.new.fields) = search rules in
    λ same bytes left.
    served_long (λ (w : RecordAwareReader g.row.R.Denot). g.R.Read.remaining w.inner) c.records.input c.read_next-2.new.input (fields_of c.read_next-2.new.fields) (phase_of c.records.session) bytes _ _ _ _ (served_way _ bytes _ _ _ _ _ _ (c.records.invariant.served bytes left) (g.W.Write.contents c.flush_unless_buffered-2.new.writer) c.flush_unless_buffered-2.new.buffer.items c.in_ok-flush_unless_buffered-2.ensures.ok) c.records.invariant.plain.config found (search rules)

-- the lines of those before were written, or wait
pub returns-then-branch-clause-whole : goal.returns-then-branch-clause-whole
returns-then-branch-clause-whole g c =
    λ other bytes left. served_stopped _ bytes _ _ _ _ _ _ (served_way _ bytes _ _ _ _ _ _ (c.records.invariant.served bytes left) (g.W.Write.contents c.flush_unless_buffered-2.new.writer) c.flush_unless_buffered-2.new.buffer.items c.in_ok-flush_unless_buffered-2.ensures.ok)

-- so they are whatever part of them is written
pub returns-then-branch-clause-prefix : goal.returns-then-branch-clause-prefix
returns-then-branch-clause-prefix g c =
    λ bytes left. served_cut _ bytes _ _ _ _ _ _ (served_way _ bytes _ _ _ _ _ _ (c.records.invariant.served bytes left) (g.W.Write.contents c.flush_unless_buffered-2.new.writer) c.flush_unless_buffered-2.new.buffer.items c.in_ok-flush_unless_buffered-2.ensures.ok)

-- there is no more
pub returns-clause-ok : goal.returns-clause-ok
returns-clause-ok g c =
    let none : ReadRecord (λ w. g.R.Read.remaining w.inner) c.records.input c.read_next-2.new.input false (fields_of c.read_next-2.new.fields) = search rules in
    λ bytes left.
    served_answered (λ (w : RecordAwareReader g.row.R.Denot). g.R.Read.remaining w.inner) c.records.input c.read_next-2.new.input (fields_of c.read_next-2.new.fields) (phase_of c.records.session) bytes _ _ _ _ (served_way _ bytes _ _ _ _ _ _ (c.records.invariant.served bytes left) (g.W.Write.contents c.flush_unless_buffered-2.new.writer) c.flush_unless_buffered-2.new.buffer.items c.in_ok-flush_unless_buffered-2.ensures.ok) c.records.invariant.plain.config none (search rules)

-- of all lines a first part is written
pub returns-clause-prefix : goal.returns-clause-prefix
returns-clause-prefix g c =
    λ bytes left. served_cut _ bytes _ _ _ _ _ _ (served_way _ bytes _ _ _ _ _ _ (c.records.invariant.served bytes left) (g.W.Write.contents c.flush_unless_buffered-2.new.writer) c.flush_unless_buffered-2.new.buffer.items c.in_ok-flush_unless_buffered-2.ensures.ok)
