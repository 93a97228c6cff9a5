use Rattle.std.proofs.Common.{ℕ, List, subst}
use Rattle.std.specs.Io.KnownBytes.{Appends}
use Rattle.std.specs.Prelude.{IfErr, OnOk}
use Rattle.bsi_shell.proofs.Flushing.{flushed, reported_end}
use Rattle.bsi_shell.proofs.store_commands.answer_help.Goals as goal
use Rattle.bsi_shell.specs.StoreRuns.{IsCutByWrite}

pub returns-clause-helped : goal.returns-clause-helped
returns-clause-helped g c = λ zero.
    let before = g.O.Write.contents c.args.output.now in
    let middle = g.O.Write.contents c.put_text-run.new.output in
    flushed c.put_text-run.result before middle (g.O.Write.contents c.finish_command.new.output)
    (subst (λ (bytes : List ℕ). OnOk c.put_text-run.result (Appends before middle bytes)) c.as_bytes.ensures.value c.put_text-run.ensures.written)
    (c.finish_command.ensures.ok zero) c.finish_command.ensures.flushed

pub returns-clause-reported : goal.returns-clause-reported
returns-clause-reported g c = λ one.
    let before = g.O.Write.contents c.args.output.now in
    let middle = g.O.Write.contents c.put_text-run.new.output in
    reported_end c.put_text-run.result before middle (g.O.Write.contents c.finish_command.new.output)
    c.finish_command.result.reported (g.F.Write.contents c.args.stderr.now) (g.F.Write.contents c.finish_command.new.stderr)
    (subst (λ (bytes : List ℕ). IfErr c.put_text-run.result (λ fault. IsCutByWrite bytes fault before middle)) c.as_bytes.ensures.value c.put_text-run.ensures.fault)
    (subst (λ (bytes : List ℕ). OnOk c.put_text-run.result (Appends before middle bytes)) c.as_bytes.ensures.value c.put_text-run.ensures.written)
    (c.finish_command.ensures.reported one) c.finish_command.ensures.flushed
