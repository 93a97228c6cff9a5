use Rattle.std.proofs.Common.{map, ap, subst, ◌∙◌}
use Rattle.bsi_schema.specs.Columns.{Declared}
use Rattle.bsi_schema.specs.Limits.{limits_of}
use Rattle.bsi_rows.specs.Table.{AreFitting}
use Rattle.bsi_rows.proofs.CallerLemmas.{wide-alike}
use Rattle.bsi_table.proofs.index.Index.accepts.Goals as goal

pub returns-then-feeders-clause-fits : goal.returns-then-feeders-clause-fits
returns-then-feeders-clause-fits c = λ same.
    subst (λ (d : Declared). AreFitting d.columns c.args.block.now.rows) (c.deref.ensures ∙ ap (λ t. t.schema) c.self.view_is) (c.has_limits_of.ensures.fits same)

pub returns-then-feeders-clause-wide : goal.returns-then-feeders-clause-wide
returns-then-feeders-clause-wide c = λ same.
    wide-alike c.args.block.now.schema c.args.self.now.schema
    (c.has_limits_of.ensures.alike.0 same ∙ ap (λ (d : Declared). map limits_of d.columns) c.deref.ensures ∙ ap (λ t. map limits_of t.schema.columns) c.self.view_is)
