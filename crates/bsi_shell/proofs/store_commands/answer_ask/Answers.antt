use Rattle.bsi_shell.proofs.Flushing.{flushed, reported_end}
use Rattle.bsi_shell.proofs.store_commands.answer_ask.Goals as goal

pub returns-clause-asked : goal.returns-clause-asked
returns-clause-asked g c = λ zero.
    flushed c.ask_either-run.result (g.O.Write.contents c.args.output.now) (g.O.Write.contents c.ask_either-run.new.output) (g.O.Write.contents c.finish_command.new.output)
    c.ask_either-run.ensures.asked (c.finish_command.ensures.ok zero) c.finish_command.ensures.flushed

pub returns-clause-reported : goal.returns-clause-reported
returns-clause-reported g c = λ one.
    reported_end c.ask_either-run.result (g.O.Write.contents c.args.output.now) (g.O.Write.contents c.ask_either-run.new.output) (g.O.Write.contents c.finish_command.new.output)
    c.finish_command.result.reported (g.F.Write.contents c.args.stderr.now) (g.F.Write.contents c.finish_command.new.stderr)
    (c.ask_either-run.ensures.fault) c.ask_either-run.ensures.asked (c.finish_command.ensures.reported one) c.finish_command.ensures.flushed
