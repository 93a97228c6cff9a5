use Rattle.bsi_shell.proofs.Flushing.{all_three, flushed, reported_end}
use Rattle.bsi_shell.proofs.store_commands.answer_check_index.Goals as goal

pub returns-clause-whole : goal.returns-clause-whole
returns-clause-whole g c = λ zero.
    flushed c.check_index-run.result (g.O.Write.contents c.args.output.now) (g.O.Write.contents c.check_index-run.new.output) (g.O.Write.contents c.finish_command.new.output)
    c.check_index-run.ensures.whole (c.finish_command.ensures.ok zero) c.finish_command.ensures.flushed

pub returns-clause-reported : goal.returns-clause-reported
returns-clause-reported g c = λ one.
    reported_end c.check_index-run.result (g.O.Write.contents c.args.output.now) (g.O.Write.contents c.check_index-run.new.output) (g.O.Write.contents c.finish_command.new.output)
    c.finish_command.result.reported (g.F.Write.contents c.args.stderr.now) (g.F.Write.contents c.finish_command.new.stderr)
    (all_three c.check_index-run.result (λ fault named met partial. record { named = named; met = met; partial = partial }) c.check_index-run.ensures.named c.check_index-run.ensures.fault c.check_index-run.ensures.prefix) c.check_index-run.ensures.whole (c.finish_command.ensures.reported one) c.finish_command.ensures.flushed
