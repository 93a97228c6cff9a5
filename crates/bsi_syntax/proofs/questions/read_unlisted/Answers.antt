use Rattle.bsi_syntax.specs.Predicates.{IsPredicate}
use Rattle.bsi_syntax.specs.Questions.{total_in, IsPredicateIn}
use Rattle.bsi_syntax.specs.Reading.{texts}
use Rattle.bsi_syntax.specs.declared.grammar.Grammar.TheVariants.{Index}
use Rattle.bsi_syntax.proofs.Asking.{IsUnlisted}
use Rattle.bsi_syntax.proofs.Firsts.{error_on}
use Rattle.bsi_syntax.proofs.Spelling.{its_pred}
use Rattle.bsi_syntax.proofs.questions.read_unlisted.Goals as goal

pub returns-in_err-pred : goal.returns-in_err-pred
returns-in_err-pred g c =
    let words = g.V.Vocabulary.words c.args.vocabulary.now in
    let fields = texts c.args.fields.now in
    let rest = texts c.in_ok-total.rest.now in
    error_on (IsUnlisted words fields) (IsPredicate words rest) c.from_residual-in_err-pred.result _ c.from_residual-in_err-pred.ensures c.in_err-pred.ensures
    (λ query is. its_pred (IsPredicateIn Index words) (total_in Index words fields) c.in_ok-total.total rest c.in_ok-total.ensures query is.0)
