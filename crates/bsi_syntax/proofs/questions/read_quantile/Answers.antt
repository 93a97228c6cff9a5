use Rattle.std.proofs.Common.{◌∷◌, codes}
use Rattle.bsi_syntax.specs.Predicates.{IsPredicate}
use Rattle.bsi_syntax.specs.Questions.{IsQuestion}
use Rattle.bsi_syntax.specs.Reading.{texts}
use Rattle.bsi_syntax.specs.declared.grammar.Grammar.TheVariants.{Index}
use Rattle.bsi_syntax.proofs.Asking.{no_part, no_quantile_column, no_share, no_whole, quantile_asked, quantile_rows}
use Rattle.bsi_syntax.proofs.Firsts.{error_on, stopped_on}
use Rattle.bsi_syntax.proofs.questions.read_quantile.Goals as goal

pub returns-in_err-c : goal.returns-in_err-c
returns-in_err-c g c =
    let words = g.V.Vocabulary.words c.args.vocabulary.now in
    let fields = texts c.args.fields.now in
    stopped_on (IsQuestion Index words (codes "quantile" ∷ fields)) c.from_residual.result _ c.from_residual.ensures (no_quantile_column words fields c.in_err-c.ensures)

pub returns-in_err-numerator : goal.returns-in_err-numerator
returns-in_err-numerator g c =
    let words = g.V.Vocabulary.words c.args.vocabulary.now in
    let fields = texts c.args.fields.now in
    stopped_on (IsQuestion Index words (codes "quantile" ∷ fields)) c.from_residual-in_err-numerator.result _ c.from_residual-in_err-numerator.ensures
    (no_part words fields c.in_ok-c.c (texts c.in_ok-c.rest.now) c.in_ok-c.ensures c.in_err-numerator.ensures)

pub returns-in_err-denominator : goal.returns-in_err-denominator
returns-in_err-denominator g c =
    let words = g.V.Vocabulary.words c.args.vocabulary.now in
    let fields = texts c.args.fields.now in
    stopped_on (IsQuestion Index words (codes "quantile" ∷ fields)) c.from_residual-in_err-denominator.result _ c.from_residual-in_err-denominator.ensures
    (no_whole words fields c.in_ok-c.c (texts c.in_ok-c.rest.now) c.in_ok-c.ensures
    c.in_ok-numerator.numerator (texts c.in_ok-numerator.from_denominator.now) c.in_ok-numerator.ensures c.in_err-denominator.ensures)

pub returns-in_default : goal.returns-in_default
returns-in_default g c =
    let words = g.V.Vocabulary.words c.args.vocabulary.now in
    let fields = texts c.args.fields.now in
    no_share words fields c.in_ok-c.c (texts c.in_ok-c.rest.now) c.in_ok-c.ensures
    c.in_ok-numerator.numerator (texts c.in_ok-numerator.from_denominator.now) c.in_ok-numerator.ensures c.in_ok-denominator.denominator (texts c.in_ok-denominator.rest.now) c.in_ok-denominator.ensures c.in_default.ensures

pub returns-in_err-pred : goal.returns-in_err-pred
returns-in_err-pred g c =
    let words = g.V.Vocabulary.words c.args.vocabulary.now in
    let fields = texts c.args.fields.now in
    error_on (IsQuestion Index words (codes "quantile" ∷ fields)) (IsPredicate words (texts c.in_ok-denominator.rest.now)) c.from_residual-in_err-pred.result _
    c.from_residual-in_err-pred.ensures c.in_err-pred.ensures
    (quantile_rows words fields c.in_ok-c.c (texts c.in_ok-c.rest.now) c.in_ok-c.ensures
    c.in_ok-numerator.numerator (texts c.in_ok-numerator.from_denominator.now) c.in_ok-numerator.ensures c.in_ok-denominator.denominator (texts c.in_ok-denominator.rest.now) c.in_ok-denominator.ensures)

pub returns : goal.returns
returns g c =
    let words = g.V.Vocabulary.words c.args.vocabulary.now in
    let fields = texts c.args.fields.now in
    quantile_asked words fields c.in_ok-c.c (texts c.in_ok-c.rest.now) c.in_ok-c.ensures
    c.in_ok-numerator.numerator (texts c.in_ok-numerator.from_denominator.now) c.in_ok-numerator.ensures c.in_ok-denominator.denominator (texts c.in_ok-denominator.rest.now) c.in_ok-denominator.ensures c.in-Some.share c.in_ok-pred.pred c.in-Some.ensures c.in_ok-pred.ensures
