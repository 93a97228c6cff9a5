use Rattle.std.proofs.Common.{◌∷◌}
use Rattle.bsi_syntax.specs.Predicates.{IsPredicate}
use Rattle.bsi_syntax.specs.Questions.{extreme_word, IsQuestion}
use Rattle.bsi_syntax.specs.Reading.{texts}
use Rattle.bsi_syntax.specs.declared.grammar.Grammar.TheVariants.{Index}
use Rattle.bsi_syntax.proofs.Asking.{its_rows, no_top_column, no_top_count}
use Rattle.bsi_syntax.proofs.Firsts.{error_on, stopped_on}
use Rattle.bsi_syntax.proofs.questions.read_top.Goals as goal

pub returns-in_err-c : goal.returns-in_err-c
returns-in_err-c g c =
    let words = g.V.Vocabulary.words c.args.vocabulary.now in
    let fields = texts c.args.fields.now in
    stopped_on (IsQuestion Index words (extreme_word c.args.extreme ∷ fields)) c.from_residual.result _ c.from_residual.ensures
    (no_top_column words c.args.extreme fields c.in_err-c.ensures)

pub returns-in_err-most : goal.returns-in_err-most
returns-in_err-most g c =
    let words = g.V.Vocabulary.words c.args.vocabulary.now in
    let fields = texts c.args.fields.now in
    stopped_on (IsQuestion Index words (extreme_word c.args.extreme ∷ fields)) c.from_residual-in_err-most.result _ c.from_residual-in_err-most.ensures
    (no_top_count words c.args.extreme fields c.in_ok-c.c (texts c.in_ok-c.rest.now) c.in_ok-c.ensures c.in_err-most.ensures)

pub returns-in_err-pred : goal.returns-in_err-pred
returns-in_err-pred g c =
    let words = g.V.Vocabulary.words c.args.vocabulary.now in
    let fields = texts c.args.fields.now in
    let rest = texts c.in_ok-most.rest.now in
    error_on (IsQuestion Index words (extreme_word c.args.extreme ∷ fields)) (IsPredicate words rest) c.from_residual-in_err-pred.result _ c.from_residual-in_err-pred.ensures
    c.in_err-pred.ensures
    (its_rows words c.args.extreme fields c.in_ok-c.c (texts c.in_ok-c.rest.now) c.in_ok-c.ensures c.in_ok-most.most rest c.in_ok-most.ensures)
