use Rattle.std.proofs.Common.{◌≡◌, ◌<◌, ℕ, length, map, ap, ap₂, sym, subst, arith, ◌∙◌}
use Rattle.std.proofs.lemmas.Result.{IfOk-weaker}
use Rattle.bsi_shift.specs.Shifted.{shifted_entries}
use Rattle.bsi_rows.specs.Rows.{holds, SourcedRow}
use Rattle.bsi_table.specs.Encoded.{encoded_at, rows_in}
use Rattle.bsi_table.proofs.TableRows.{length-sourced_rows, map-sourced_rows}
use Rattle.bsi_table.proofs.index.Index.find.Goals as goal

pub select_rows-requires-clause-even : goal.select_rows-requires-clause-even
select_rows-requires-clause-even c =
    let encoded = c.self.inside.columns.items in
    let invariant = c.self.invariant.0.columns_are in
    let rows = sym (length-sourced_rows c.self.inside.origins.rows encoded) ∙ ap (λ t. length t.rows) c.self.view_is ∙ sym c.len-rows.ensures.len in
    subst (λ columns. (k : ℕ) → k < length columns → length (shifted_entries (encoded_at columns k)) ≡ c.len-rows.result) (sym c.deref-columns.ensures.value)
    (λ k within. (invariant.each k (omega (arith, within, invariant.long))).rows ∙ rows)

pub returns : goal.returns
returns c =
    let pred = c.args.pred.now in
    let row_feeders = c.self.inside.origins.rows in
    let encoded = c.self.inside.columns.items in
    let long = c.len-rows.ensures.len ∙ ap (λ t. length t.rows) (sym c.self.view_is) ∙ length-sourced_rows row_feeders encoded in
    IfOk-weaker c.select_rows.result
    (λ selection. selection.bits ≡ map (holds pred) (rows_in c.deref-columns.result.now c.len-rows.result))
    (λ selection. selection.bits ≡ map (λ (row : SourcedRow). holds pred row.1) c.args.self.now.rows)
    (λ selection is. is
    ∙ ap₂ (λ columns n. map (holds pred) (rows_in columns n)) c.deref-columns.ensures.value long
    ∙ sym (map-sourced_rows row_feeders encoded (holds pred))
    ∙ ap (λ t. map (λ (row : SourcedRow). holds pred row.1) t.rows) c.self.view_is) c.select_rows.ensures
