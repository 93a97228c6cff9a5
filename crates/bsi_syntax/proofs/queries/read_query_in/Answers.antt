use Rattle.bsi_syntax.specs.Questions.{total_in, IsPredicateIn, IsQueryIn}
use Rattle.bsi_syntax.specs.Reading.{texts}
use Rattle.bsi_syntax.proofs.Firsts.{error_on, stopped_on}
use Rattle.bsi_syntax.proofs.Spelling.{is_query, its_pred, no_total_query}
use Rattle.bsi_syntax.proofs.queries.read_query_in.Goals as goal

pub returns-in_err-total : goal.returns-in_err-total
returns-in_err-total g c =
    let grammar = c.args.grammar in
    let words = g.V.Vocabulary.words c.args.vocabulary.now in
    let fields = texts c.args.fields.now in
    stopped_on (IsQueryIn grammar words fields) c.from_residual.result _ c.from_residual.ensures
    (no_total_query (IsPredicateIn grammar words) (total_in grammar words fields) c.in_err-total.ensures)

pub returns-in_err-pred : goal.returns-in_err-pred
returns-in_err-pred g c =
    let grammar = c.args.grammar in
    let words = g.V.Vocabulary.words c.args.vocabulary.now in
    let fields = texts c.args.fields.now in
    let rest = texts c.in_ok-total.rest.now in
    error_on (IsQueryIn grammar words fields) (IsPredicateIn grammar words rest) c.from_residual-in_err-pred.result _ c.from_residual-in_err-pred.ensures c.in_err-pred.ensures
    (its_pred (IsPredicateIn grammar words) (total_in grammar words fields) c.in_ok-total.total rest c.in_ok-total.ensures)

pub returns : goal.returns
returns g c =
    let grammar = c.args.grammar in
    let words = g.V.Vocabulary.words c.args.vocabulary.now in
    let fields = texts c.args.fields.now in
    is_query (IsPredicateIn grammar words) (total_in grammar words fields) _ (texts c.in_ok-total.rest.now) c.in_ok-total.ensures c.in_ok-pred.ensures
