use Rattle.bsi_answers.proofs.Passing.{if_err_both}
use Rattle.bsi_shell.proofs.Flushing.{given, of_some, reported_end}
use Rattle.bsi_shell.specs.StoreRuns.{HasSavedBy}
use Rattle.bsi_shell.proofs.store_commands.save_by_kinds.Goals as goal

pub returns-clause-saved : goal.returns-clause-saved
returns-clause-saved g c = λ zero.
    given c.save_kinds-run.result (g.O.Write.contents c.args.output.now) (g.O.Write.contents c.save_kinds-run.new.output) (g.O.Write.contents c.finish_rows.new.output)
    c.finish_rows.result.reported (g.F.Write.contents c.args.stderr.now) (g.F.Write.contents c.finish_rows.new.stderr)
    c.save_kinds-run.ensures.saved (c.finish_rows.ensures.noticed zero) c.finish_rows.ensures.flushed

pub returns-clause-reported : goal.returns-clause-reported
returns-clause-reported g c = λ one.
    reported_end c.save_kinds-run.result (g.O.Write.contents c.args.output.now) (g.O.Write.contents c.save_kinds-run.new.output) (g.O.Write.contents c.finish_rows.new.output)
    c.finish_rows.result.reported (g.F.Write.contents c.args.stderr.now) (g.F.Write.contents c.finish_rows.new.stderr)
    (if_err_both c.save_kinds-run.result (λ fault named partial. record { named = named; partial = partial }) c.save_kinds-run.ensures.named c.save_kinds-run.ensures.prefix)
    (of_some (HasSavedBy g.S.Read.remaining g.S.Write.contents c.args.format.now c.args.paths.now) c.save_kinds-run.result (g.O.Write.contents c.args.output.now) (g.O.Write.contents c.save_kinds-run.new.output) c.save_kinds-run.ensures.saved)
    (c.finish_rows.ensures.reported one) c.finish_rows.ensures.flushed
