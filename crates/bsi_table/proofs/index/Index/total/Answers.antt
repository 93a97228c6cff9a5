use Rattle.std.proofs.Common.{length, ap, sym, subst, ◌∙◌}
use Rattle.std.proofs.lemmas.Result.{IfOk-weaker}
use Rattle.bsi_table.specs.Encoded.{sourced_rows}
use Rattle.bsi_table.specs.Totals.{IsTotalAt}
use Rattle.bsi_table.proofs.TableRows.{length-sourced_rows}
use Rattle.bsi_table.proofs.index.Index.total.Goals as goal

pub total_selected-requires-clause-selection : goal.total_selected-requires-clause-selection
total_selected-requires-clause-selection c =
    c.requires.bits ∙ ap (λ t. length t.rows) (sym c.self.view_is) ∙ length-sourced_rows c.self.inside.origins.rows c.self.inside.columns.items

pub returns-clause-answer : goal.returns-clause-answer
returns-clause-answer c =
    let rows = ap (sourced_rows c.self.inside.origins.rows) c.deref-columns.ensures.value ∙ ap (λ t. t.rows) c.self.view_is in
    IfOk-weaker c.total_selected.result _ _ (λ answer. subst (λ rows. IsTotalAt c.args.total c.args.selection.now.bits rows answer) rows) c.total_selected.ensures.answer
