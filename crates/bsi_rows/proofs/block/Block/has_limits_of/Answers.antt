use Rattle.std.proofs.Common.{◌≡◌, map, length, true, ap, subst, sym, ◌∙◌}
use Rattle.bsi_schema.specs.Columns.{fits}
use Rattle.bsi_schema.specs.Limits.{limits_of}
use Rattle.bsi_rows.specs.RowBlocks.{cell_entry, RowBlock}
use Rattle.bsi_rows.specs.Table.{AreFitting}
use Rattle.bsi_rows.proofs.BlockRows.{All-rows_of_cells}
use Rattle.bsi_rows.proofs.CallerLemmas.{fitting-alike}
use Rattle.bsi_rows.proofs.block.Block.has_limits_of.Goals as goal

pub returns-clause-alike : goal.returns-clause-alike
returns-clause-alike c =
    let own : c.deref.result.now ≡ map limits_of c.args.self.now.schema.columns =
    c.deref.ensures.value ∙ c.self.invariant.0.limits_are ∙ ap (λ b. map limits_of b.schema.columns) c.self.view_is in
    let other = c.limits.ensures.limits in
    (λ same. sym own ∙ c.have_same_limits.ensures.0 same ∙ other, λ alike. c.have_same_limits.ensures.1 (own ∙ alike ∙ sym other))

-- its rows fit the columns that it was made for, so they fit those that are alike
pub returns-clause-fits : goal.returns-clause-fits
returns-clause-fits c = λ same.
    let i = c.self.inside in
    let columns = i.schema.value.columns in
    let own : c.deref.result.now ≡ map limits_of c.args.self.now.schema.columns =
    c.deref.ensures.value ∙ c.self.invariant.0.limits_are ∙ ap (λ b. map limits_of b.schema.columns) c.self.view_is in
    fitting-alike c.args.self.now.schema c.args.schema.now (sym own ∙ c.have_same_limits.ensures.0 same ∙ c.limits.ensures.limits) c.args.self.now.rows
    (subst (λ (b : RowBlock). AreFitting b.schema.columns b.rows) c.self.view_is
    (All-rows_of_cells (length columns) i.row_feeders.items (cell_entry i.limits.items i.numbers.items i.not_null.items) (λ row. fits columns row.1 ≡ true) c.self.invariant.0.fitting))
