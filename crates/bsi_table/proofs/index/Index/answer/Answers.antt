use Rattle.std.proofs.Common.{◌≡◌, ◌<◌, ℕ, [], length, map, ap, ap₂, sym, subst, arith, ◌∙◌}
use Rattle.std.specs.Prelude.{count_by}
use Rattle.bsi_shift.specs.Shifted.{shifted_entries}
use Rattle.bsi_rows.specs.declared.query.Answer.TheVariants.{Count}
use Rattle.bsi_rows.specs.Answers.{IsTotal}
use Rattle.bsi_rows.specs.Rows.{holds}
use Rattle.bsi_table.specs.Encoded.{sourced_rows, encoded_at, rows_in}
use Rattle.std.proofs.lemmas.List.{length-map}
use Rattle.std.proofs.lemmas.Result.{IfOk-weaker}
use Rattle.bsi_table.specs.Totals.{IsTotalAt}
use Rattle.bsi_table.proofs.Selections.{length-places}
use Rattle.bsi_table.proofs.SelectedTotals.{total_selected}
use Rattle.bsi_table.proofs.TableRows.{length-sourced_rows, map-sourced_rows}
use Rattle.bsi_table.proofs.index.Index.answer.Goals as goal

pub count_selected-requires-clause-even : goal.count_selected-requires-clause-even
count_selected-requires-clause-even c =
    let encoded = c.self.inside.columns.items in
    let invariant = c.self.invariant.0.columns_are in
    let rows = sym (length-sourced_rows c.self.inside.origins.rows encoded) ∙ ap (λ t. length t.rows) c.self.view_is ∙ sym c.len-rows.ensures.len in
    subst (λ columns. (k : ℕ) → k < length columns → length (shifted_entries (encoded_at columns k)) ≡ c.len-rows.result) (sym c.deref-columns.ensures.value)
    (λ k within. (invariant.each k (omega (arith, within, invariant.long))).rows ∙ rows)

-- a count is that of the rows that the predicate selects
pub returns-in-Count-clause-answer : goal.returns-in-Count-clause-answer
returns-in-Count-clause-answer c =
    let pred = c.args.query.now.pred in
    let row_feeders = c.self.inside.origins.rows in
    let encoded = c.self.inside.columns.items in
    let invariant = c.self.invariant.0.columns_are in
    let long = c.len-rows.ensures.len ∙ ap (λ t. length t.rows) (sym c.self.view_is) ∙ length-sourced_rows row_feeders encoded in
    let all = map (λ row. holds pred row.1) (sourced_rows row_feeders encoded) in
    let selected = c.in_ok-count_selected.field-0 in
    let counted : selected ≡ count_by (λ b. b) all =
    c.in_ok-count_selected.ensures.counted
    ∙ ap₂ (λ columns n. count_by (λ b. b) (map (holds pred) (rows_in columns n))) c.deref-columns.ensures.value long
    ∙ ap (count_by (λ b. b)) (sym (map-sourced_rows row_feeders encoded (holds pred))) in
    let selection = sym (length-places (0, []) (λ row. holds pred row.1) (sourced_rows row_feeders encoded)) in
    subst (λ rows. IsTotal c.args.query.now.total pred rows (Count selected)) (ap (λ t. t.rows) c.self.view_is)
    (subst (λ t. IsTotal t pred (sourced_rows row_feeders encoded) (Count selected)) (sym c.in-Count.is) (ap Count (counted ∙ selection)))

-- a selection of the rows that the predicate selects has a bit for each row
pub total-requires-clause-bits : goal.total-requires-clause-bits
total-requires-clause-bits c = ap length c.in_ok-selection.ensures ∙ length-map c.args.self.now.rows _

-- its total is that of the rows that the predicate selects
pub returns-clause-answer : goal.returns-clause-answer
returns-clause-answer c =
    let pred = c.args.query.now.pred in
    let rows = c.args.self.now.rows in
    IfOk-weaker c.total.result _ _
    (λ answer is.
    total_selected pred rows c.args.query.now.total answer
    (subst (λ selection. IsTotalAt c.args.query.now.total selection rows answer) c.in_ok-selection.ensures is))
    c.total.ensures.answer
