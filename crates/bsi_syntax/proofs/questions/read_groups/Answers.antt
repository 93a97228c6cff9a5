use Rattle.bsi_syntax.specs.Questions.{IsQuestion}
use Rattle.bsi_syntax.specs.Reading.{texts}
use Rattle.bsi_syntax.specs.declared.grammar.Grammar.TheVariants.{Index}
use Rattle.bsi_syntax.proofs.Asking.{groups_asked, its_query, no_columns, IsUnlisted}
use Rattle.bsi_syntax.proofs.Firsts.{error_on}
use Rattle.bsi_syntax.proofs.questions.read_groups.Goals as goal

pub returns-in_err-rest : goal.returns-in_err-rest
returns-in_err-rest g c =
    no_columns (g.V.Vocabulary.words c.args.vocabulary.now) (texts c.args.fields.now) c.requires c.new-by.result.items c.read_columns.new.by.items c.from_residual.result _ c.from_residual.ensures
    c.new-by.ensures.items c.in_err-rest.ensures

pub returns-in_err-query : goal.returns-in_err-query
returns-in_err-query g c =
    let words = g.V.Vocabulary.words c.args.vocabulary.now in
    let fields = texts c.args.fields.now in
    let rest = texts c.in_ok-rest.rest.now in
    error_on (IsQuestion Index words fields) (IsUnlisted words rest) c.from_residual-in_err-query.result _ c.from_residual-in_err-query.ensures c.in_err-query.ensures
    (its_query words fields c.requires c.new-by.result.items c.read_columns.new.by.items rest c.new-by.ensures.items c.in_ok-rest.ensures)

pub returns : goal.returns
returns g c =
    groups_asked (g.V.Vocabulary.words c.args.vocabulary.now) (texts c.args.fields.now) c.requires c.new-by.result.items c.read_columns.new.by (texts c.in_ok-rest.rest.now) c.new-by.ensures.items
    c.in_ok-rest.ensures c.in_ok-query.query c.in_ok-query.ensures
