use Rattle.std.proofs.Common.{◌∷◌, codes}
use Rattle.bsi_syntax.specs.Predicates.{IsPredicate}
use Rattle.bsi_syntax.specs.Questions.{IsQuestion}
use Rattle.bsi_syntax.specs.Reading.{texts}
use Rattle.bsi_syntax.specs.declared.grammar.Grammar.TheVariants.{Index}
use Rattle.bsi_syntax.proofs.Asking.{distinct_rows, no_distinct_column}
use Rattle.bsi_syntax.proofs.Firsts.{error_on, stopped_on}
use Rattle.bsi_syntax.proofs.questions.read_distinct.Goals as goal

pub returns-in_err-c : goal.returns-in_err-c
returns-in_err-c g c =
    let words = g.V.Vocabulary.words c.args.vocabulary.now in
    let fields = texts c.args.fields.now in
    stopped_on (IsQuestion Index words (codes "distinct" ∷ fields)) c.from_residual.result _ c.from_residual.ensures
    (no_distinct_column words fields c.in_err-c.ensures)

pub returns-in_err-pred : goal.returns-in_err-pred
returns-in_err-pred g c =
    let words = g.V.Vocabulary.words c.args.vocabulary.now in
    let fields = texts c.args.fields.now in
    let rest = texts c.in_ok-c.rest.now in
    error_on (IsQuestion Index words (codes "distinct" ∷ fields)) (IsPredicate words rest) c.from_residual-in_err-pred.result _ c.from_residual-in_err-pred.ensures
    c.in_err-pred.ensures (distinct_rows words fields c.in_ok-c.c rest c.in_ok-c.ensures)
