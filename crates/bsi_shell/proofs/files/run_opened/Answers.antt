use Rattle.std.proofs.Common.{Bool, length, map, rules, subst}
use Rattle.std.specs.Prelude.{IfErr}
use Rattle.bsi_files.specs.RunFaults.{IsFaultOf}
use Rattle.bsi_answers.specs.Writing.{WhereFilesKnown}
use Rattle.bsi_shell.proofs.Runs.{failed_over, few_files, if_err_so, on_both, on_ok_both, on_ok_so, run_flushed}
use Rattle.bsi_shell.proofs.files.run_opened.Goals as goal

-- all lines were written, and the flush keeps them
pub returns-clause-ran : goal.returns-clause-ran
returns-clause-ran g c =
    let rows = c.args.opened.rows.items in
    let before = g.O.Write.contents c.args.output.now in
    let after = g.O.Write.contents c.run_files-run.new.writer in
    on_both c.run_files-run.result c.map_err-flushed.result c.and.result c.and.ensures
    (on_ok_both _ _ c.run_files-run.result (few_files c.run_files-run.result (length rows) c.run_files-run.ensures.files) c.run_files-run.ensures.lines)
    (λ both. run_flushed g.S.Read.remaining c.args.opened.schema c.args.opened.asks rows before after (g.O.Write.contents c.flush.new.self)
    c.flush.ensures.bytes c.requires.some both.0 (both.1 c.requires.never))

-- or the run met a fault, or the flush did
pub returns-clause-failed : goal.returns-clause-failed
returns-clause-failed g c =
    let before = g.O.Write.contents c.args.output.now in
    let middle = g.O.Write.contents c.run_files-run.new.writer in
    let fault = subst
    (λ (stops : Bool). IfErr c.run_files-run.result (λ fault. WhereFilesKnown (g.S.Read.remaining c.args.opened.schema)
    (map g.S.Read.remaining c.args.opened.rows.items) (λ declared texts. IsFaultOf stops declared texts fault)))
    c.requires.never c.run_files-run.ensures.fault in
    failed_over g.S.Read.remaining c.args.opened.schema c.args.opened.asks c.args.opened.rows.items before middle (g.O.Write.contents c.flush.new.self)
    c.flush.ensures.bytes c.requires.some c.run_files-run.result c.map_err-flushed.result c.and.result c.and.ensures
    (on_ok_so _ _ c.run_files-run.result c.run_files-run.ensures.lines c.requires.never)
    fault
    (if_err_so _ _ c.run_files-run.result c.run_files-run.ensures.prefix c.requires.never)
    (search rules)
