use Rattle.std.proofs.Common.{◌≡◌, ap, rules, subst, sym, ◌∙◌}
use Rattle.std.specs.Prelude.{IfErr, Err}
use Rattle.bsi_answers.proofs.Passing.{if_err}
use Rattle.bsi_answers.specs.declared.faults.FilesFault.TheVariants as run
use Rattle.bsi_check.specs.Reports.{HasBegunReport, HasReported}
use Rattle.bsi_shell.specs.Checks.{check_fault_of, LeavesCheck}
use Rattle.bsi_shell.specs.declared.files.RunFault.{RunFault}
use Rattle.bsi_shell.specs.declared.files.RunFault.TheVariants.{Run}
use Rattle.bsi_shell.proofs.Checking.{begun_all, left_checked, over_opened}
use Rattle.bsi_shell.proofs.check.check_paths.Goals as goal

pub returns-clause-reported : goal.returns-clause-reported
returns-clause-reported g c =
    let rem = g.S.Read.remaining in
    over_opened rem c.in_ok-schema.schema c.in_ok-asks.asks c.in_ok-rows.rows.items
    (λ schema rows asks before after. HasReported rem schema rows asks before after c.in_ok-good.good)
    (g.O.Write.contents c.args.output.now) (g.O.Write.contents c.check_files.new.output) (g.O.Write.contents c.flush.new.self)
    c.in_ok-good.ensures.reported c.flush.ensures.bytes

-- the check itself ended by a fault
pub returns-in_err-good-clause-after_fault : goal.returns-in_err-good-clause-after_fault
returns-in_err-good-clause-after_fault g c =
    let rem = g.S.Read.remaining in
    let before = g.O.Write.contents c.args.output.now in
    let after = g.O.Write.contents c.check_files.new.output in
    let met : IfErr c.from_residual-in_err-good.result (λ (fault : RunFault). fault ≡ check_fault_of c.in_err-good.field-0.0) = search rules in
    if_err c.from_residual-in_err-good.result (λ fault is. subst (λ f. LeavesCheck rem f before after) (sym is)
    (left_checked rem c.in_ok-schema.schema c.in_ok-asks.asks c.in_ok-rows.rows.items before after c.in_err-good.field-0.0
    (λ e. c.check_files.ensures.prefix (c.in_err-good.was ∙ ap (λ f. Err f) e)) (λ e. c.check_files.ensures.output_unchanged (c.in_err-good.was ∙ ap (λ f. Err f) e)))) met

-- the report was written, and could not be flushed
pub returns-in_err-map_err-clause-after_fault : goal.returns-in_err-map_err-clause-after_fault
returns-in_err-map_err-clause-after_fault g c =
    let rem = g.S.Read.remaining in
    let before = g.O.Write.contents c.args.output.now in
    let middle = g.O.Write.contents c.check_files.new.output in
    let after = g.O.Write.contents c.flush.new.self in
    let schema = c.in_ok-schema.schema in
    let asks = c.in_ok-asks.asks in
    let rows = c.in_ok-rows.rows.items in
    let met : IfErr c.from_residual-in_err-map_err.result (λ (fault : RunFault). fault ≡ Run run.Write) = search rules in
    if_err c.from_residual-in_err-map_err.result (λ fault is. subst (λ f. LeavesCheck rem f before after) (sym is)
    (over_opened rem schema asks rows (HasBegunReport rem) before middle after
    (begun_all rem schema asks rows before middle c.in_ok-good.good c.in_ok-good.ensures.reported) c.flush.ensures.bytes)) met
