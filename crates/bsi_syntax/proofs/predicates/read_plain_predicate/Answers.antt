use Rattle.std.proofs.Common.{sym, ◌∙◌}
use Rattle.bsi_syntax.specs.Predicates.{IsPlainPredicate, IsPredicate}
use Rattle.bsi_syntax.specs.Reading.{texts}
use Rattle.bsi_syntax.proofs.Firsts.{error_on}
use Rattle.bsi_syntax.proofs.Spelling.{not_plain}
use Rattle.bsi_syntax.proofs.predicates.read_plain_predicate.Goals as goal

pub returns-in_err-pred : goal.returns-in_err-pred
returns-in_err-pred g c =
    let words = g.V.Vocabulary.words c.args.vocabulary.now in
    let fields = texts c.args.fields.now in
    error_on (IsPlainPredicate words fields) (IsPredicate words fields) c.from_residual.result _ c.from_residual.ensures c.in_err-pred.ensures (λ pred is. (pred, is.0))

pub returns-then-compares_columns : goal.returns-then-compares_columns
returns-then-compares_columns g c =
    not_plain (g.V.Vocabulary.words c.args.vocabulary.now) c.know_names.ensures (texts c.args.fields.now) c.in_ok-pred.pred c.in_ok-pred.ensures
    (sym c.compares_columns.ensures ∙ c.if-compares_columns.true)
