use Rattle.bsi_answers.proofs.Passing.{if_err_both}
use Rattle.bsi_shell.proofs.Flushing.{given, of_some, reported_end}
use Rattle.bsi_shell.specs.StoreRuns.{HasAddedRows}
use Rattle.bsi_shell.proofs.store_commands.answer_add.Goals as goal

pub returns-clause-added : goal.returns-clause-added
returns-clause-added g c = λ zero.
    given c.add_rows-run.result (g.O.Write.contents c.args.output.now) (g.O.Write.contents c.add_rows-run.new.output) (g.O.Write.contents c.finish_rows.new.output)
    c.finish_rows.result.reported (g.F.Write.contents c.args.stderr.now) (g.F.Write.contents c.finish_rows.new.stderr)
    c.add_rows-run.ensures.added (c.finish_rows.ensures.noticed zero) c.finish_rows.ensures.flushed

pub returns-clause-reported : goal.returns-clause-reported
returns-clause-reported g c = λ one.
    reported_end c.add_rows-run.result (g.O.Write.contents c.args.output.now) (g.O.Write.contents c.add_rows-run.new.output) (g.O.Write.contents c.finish_rows.new.output)
    c.finish_rows.result.reported (g.F.Write.contents c.args.stderr.now) (g.F.Write.contents c.finish_rows.new.stderr)
    (if_err_both c.add_rows-run.result (λ fault named partial. record { named = named; partial = partial }) c.add_rows-run.ensures.named c.add_rows-run.ensures.prefix)
    (of_some (HasAddedRows g.S.Read.remaining g.S.Write.contents c.args.paths.now) c.add_rows-run.result (g.O.Write.contents c.args.output.now) (g.O.Write.contents c.add_rows-run.new.output) c.add_rows-run.ensures.added)
    (c.finish_rows.ensures.reported one) c.finish_rows.ensures.flushed
