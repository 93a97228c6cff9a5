use Rattle.std.proofs.Common.{map, ap, subst, sym, ◌∙◌}
use Rattle.bsi_schema.specs.Limits.{limits_of}
use Rattle.bsi_table.specs.Index.{table_of}
use Rattle.bsi_rows.specs.Table.{AreFitting, Table}
use Rattle.bsi_rows.proofs.CallerLemmas.{fitting-alike}
use Rattle.bsi_table.proofs.Joining.{fitting_rows}
use Rattle.bsi_table.proofs.index.Index.has_limits_of.Goals as goal

-- its rows fit its columns, so they fit those that are alike
pub returns-clause-fits : goal.returns-clause-fits
returns-clause-fits c = λ same.
    let i = c.self.inside in
    let own = c.limits.ensures.limits ∙ ap (λ d. map limits_of d.columns) c.deref.ensures ∙ ap (λ (t : Table). map limits_of t.schema.columns) (ap table_of c.self.view_is) in
    let fitting = subst (λ (t : Table). AreFitting t.schema.columns t.rows) (ap table_of c.self.view_is)
    (fitting_rows i.schema.value.columns i.origins.feeders i.limit i.origins.rows i.columns.items c.self.invariant.0) in
    fitting-alike c.args.self.now.schema c.args.schema.now (sym own ∙ c.have_same_limits.ensures.0 same ∙ c.limits-2.ensures.limits) c.args.self.now.rows fitting
