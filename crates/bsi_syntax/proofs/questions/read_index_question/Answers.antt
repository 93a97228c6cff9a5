use Rattle.std.proofs.Common.{◌≡◌, ◌∷◌, codes, ap}
use Rattle.bsi_syntax.specs.Questions.{IsQueryIn, IsQuestion}
use Rattle.bsi_syntax.specs.Reading.{texts}
use Rattle.bsi_syntax.specs.declared.grammar.Grammar.TheVariants.{Index}
use Rattle.bsi_syntax.proofs.Asking.{no_field_asks, not_word, query_alone}
use Rattle.bsi_syntax.proofs.Firsts.{error_on}
use Rattle.bsi_syntax.proofs.questions.read_index_question.Goals as goal

pub returns-in_default : goal.returns-in_default
returns-in_default g c = no_field_asks (g.V.Vocabulary.words c.args.vocabulary.now) c.args.fields.now c.in_default.ensures.cases

pub returns-in_err-read_query_in : goal.returns-in_err-read_query_in
returns-in_err-read_query_in g c =
    let words = g.V.Vocabulary.words c.args.vocabulary.now in
    let fields = texts c.args.fields.now in
    let word = c.in-Some.word.now.now in
    let rest = texts c.in-Some.rest.now in
    let denominator : texts c.args.fields.now ≡ c.in-Some.word.now.now ∷ texts c.in-Some.rest.now = ap texts c.in-Some.ensures.cases.0 in
    error_on (IsQuestion Index words fields) (IsQueryIn Index words fields) c.from_residual.result _ c.from_residual.ensures c.in_err-read_query_in.ensures
    (query_alone words fields word rest denominator
    (not_word word c.as_slice.result.now (codes "by") c.if-eq.ensures c.as_slice.ensures)
    (not_word word c.as_slice-2.result.now (codes "top") c.if-eq-2.ensures c.as_slice-2.ensures)
    (not_word word c.as_slice-3.result.now (codes "bottom") c.if-eq-3.ensures c.as_slice-3.ensures)
    (not_word word c.as_slice-4.result.now (codes "distinct") c.if-eq-4.ensures c.as_slice-4.ensures)
    (not_word word c.as_slice-5.result.now (codes "quantile") c.if-eq-5.ensures c.as_slice-5.ensures))
