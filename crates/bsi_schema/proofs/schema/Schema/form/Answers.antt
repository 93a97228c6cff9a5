use Rattle.std.proofs.Common.{subst, sym}
use Rattle.bsi_schema.specs.Columns.{IsForm}
use Rattle.bsi_schema.proofs.schema.Schema.form.Goals as goal

pub returns-clause-valid : goal.returns-clause-valid
returns-clause-valid c = subst IsForm (sym c.layout.ensures.form) c.layout.ensures.valid.form
