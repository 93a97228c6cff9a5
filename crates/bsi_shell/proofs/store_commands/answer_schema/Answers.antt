use Rattle.std.proofs.Common.{inr, length, subst, sym}
use Rattle.bsi_store.specs.Surveyed.{HasDescribed}
use Rattle.bsi_shell.proofs.Describing.{cut_described, rows_described}
use Rattle.bsi_shell.proofs.Flushing.{flushed, reported_end}
use Rattle.bsi_shell.proofs.store_commands.answer_schema.Goals as goal

pub returns-in-Ok-clause-described : goal.returns-in-Ok-clause-described
returns-in-Ok-clause-described g c = λ zero.
    let rem = g.S.Read.remaining in
    let request = c.args.request.now in
    let before = g.O.Write.contents c.args.output.now in
    let middle = g.O.Write.contents c.put_text-run.new.output in
    let described = subst (HasDescribed rem (length request.rows.items)) (sym c.as_slice.ensures.value) c.in-Ok.ensures in
    flushed c.put_text-run.result before middle (g.O.Write.contents c.finish_command.new.output)
    (rows_described rem request c.as_slice.result.now described before middle c.put_text-run.result c.put_text-run.ensures.written)
    (c.finish_command.ensures.ok zero) c.finish_command.ensures.flushed

pub returns-in-Ok-clause-reported : goal.returns-in-Ok-clause-reported
returns-in-Ok-clause-reported g c = λ one.
    let rem = g.S.Read.remaining in
    let request = c.args.request.now in
    let before = g.O.Write.contents c.args.output.now in
    let middle = g.O.Write.contents c.put_text-run.new.output in
    let described = subst (HasDescribed rem (length request.rows.items)) (sym c.as_slice.ensures.value) c.in-Ok.ensures in
    inr (reported_end c.put_text-run.result before middle (g.O.Write.contents c.finish_command.new.output)
    c.finish_command.result.reported (g.F.Write.contents c.args.stderr.now) (g.F.Write.contents c.finish_command.new.stderr)
    (cut_described rem request c.as_slice.result.now described before middle c.put_text-run.result c.put_text-run.ensures.fault)
    (rows_described rem request c.as_slice.result.now described before middle c.put_text-run.result c.put_text-run.ensures.written)
    (c.finish_command.ensures.reported one) c.finish_command.ensures.flushed)
