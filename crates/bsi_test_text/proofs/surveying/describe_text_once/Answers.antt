use Rattle.std.proofs.Common.{subst, sym}
use Rattle.bsi_logical.specs.declared.dialect.Dialect.{Dialect}
use Rattle.bsi_survey.specs.Looking.{AreLookedFor}
use Rattle.bsi_test_text.proofs.surveying.describe_text_once.Goals as goal

-- a survey that was read looks for each kind, or for texts alone
pub describe-requires : goal.describe-requires
describe-requires c = record {
  starts = c.args.options.now.starts.items;
  each = subst (λ (d : Dialect). AreLookedFor d.point c.args.options.now.starts.items c.in-Ok.survey.columns.items) (sym c.in-Ok.ensures.dialect) c.in-Ok.ensures.looked;
}
