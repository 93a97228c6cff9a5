use Rattle.std.proofs.Common.{◌≡◌, ap, subst, ◌∙◌}
use Rattle.std.specs.List.{AllZip}
use Rattle.rayon.proofs.ListFacts.{IfOk-then}
use Rattle.rayon.proofs.ToStd.{slice-AllZip}
use Rattle.bsi_aggregates.specs.QuestionReplies.{IsQuestionReply}
use Rattle.bsi_answers.proofs.parallel.answer_each.Goals as goal

pub returns : goal.returns
returns g c =
    let questions = c.args.questions.now in
    let slice = ap (λ it. it.base.slice.now) c.map.ensures.base ∙ ap (λ it. it.slice.now) c.with_min_len.ensures.base ∙ c.par_iter.ensures in
    let same : c.map.result.f.1 ≡ c.args.index = ap (λ f. f.1) c.map.ensures.f in
    IfOk-then c.collect.result _ _ c.collect.ensures (λ v h.
    let chain = h.1 in
    let each = slice-AllZip chain.0 questions (chain.1 ∙ slice) (IsQuestionReply c.map.result.f.1.now.schema c.map.result.f.1.now.rows) h.0 chain.2 in
    rw h.2 (subst (λ index. AllZip (IsQuestionReply index.now.schema index.now.rows) questions h.0) same each))
