use Rattle.std.proofs.Common.{rules}
use Rattle.std.specs.Prelude.{IfSome}
use Rattle.bsi_input.specs.Texts.{IsAnswered, WrotePrefix}
use Rattle.bsi_input.proofs.Standing.{answered_begun}
use Rattle.bsi_shell.proofs.Runs.{answered_flushed, begun_flushed, if_some, of_each, on_both, on_err}
use Rattle.bsi_shell.proofs.Scripts.{script_left}
use Rattle.bsi_shell.proofs.words.run_to_end.Goals as goal

-- all lines were written, and the flush keeps them
pub returns-clause-ok : goal.returns-clause-ok
returns-clause-ok g c =
    let known = g.I.Read.remaining c.args.input in
    let before = g.O.Write.contents c.args.output.now in
    let after = g.O.Write.contents c.run_script-run.new.writer in
    on_both c.run_script-run.result c.map_err-flushed.result c.and.result c.and.ensures c.run_script-run.ensures.ok
    (if_some known (answered_flushed before after (g.O.Write.contents c.flush.new.self) c.flush.ensures.bytes))

-- a run whose output can't be flushed wrote all lines, or met a fault
pub returns-clause-fault : goal.returns-clause-fault
returns-clause-fault g c =
    let known = g.I.Read.remaining c.args.input in
    let before = g.O.Write.contents c.args.output.now in
    let after = g.O.Write.contents c.run_script-run.new.writer in
    let run : IfSome known (λ bytes. WrotePrefix bytes before after) =
    of_each {P = λ bytes. IsAnswered bytes before after} known c.run_script-run.result (λ bytes answered. answered_begun bytes before after answered)
    c.run_script-run.ensures.ok c.run_script-run.ensures.fault in
    let flushed = if_some known (begun_flushed before after (g.O.Write.contents c.flush.new.self) c.flush.ensures.bytes) run in
    on_err c.and.result flushed

pub returns-clause-after_fault : goal.returns-clause-after_fault
returns-clause-after_fault g c =
    let before = g.O.Write.contents c.args.output.now in
    let middle = g.O.Write.contents c.run_script-run.new.writer in
    script_left before middle (g.O.Write.contents c.flush.new.self) c.flush.ensures.bytes (g.I.Read.remaining c.args.input)
    c.run_script-run.result c.map_err-flushed.result c.and.result c.and.ensures
    c.run_script-run.ensures.ok c.run_script-run.ensures.too_long c.run_script-run.ensures.fault c.run_script-run.ensures.whole
    (λ bytes answered. answered_begun bytes before middle answered)
    (search rules)
