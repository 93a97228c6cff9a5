use Rattle.std.proofs.Common.{subst, sym}
use Rattle.bsi_rows.specs.declared.question.Question.{Question}
use Rattle.bsi_aggregates.specs.QuestionReplies.{IsQuestionReply}
use Rattle.bsi_aggregates.specs.declared.answering.QuestionReply.TheVariants as reply
use Rattle.bsi_aggregates.proofs.answering.answer.Goals as goal

pub returns-in-Quantile : goal.returns-in-Quantile
returns-in-Quantile c =
    subst (λ (asked : Question). IsQuestionReply c.args.index.now.schema c.args.index.now.rows asked (reply.Quantile c.quantile.result))
    (sym c.in-Quantile.is) c.quantile.ensures
