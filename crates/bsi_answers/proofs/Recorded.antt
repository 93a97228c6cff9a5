-- The line of a record that asks a question, written behind others.
use Rattle.std.proofs.Common.{inr}
use Rattle.std.specs.Prelude.{Result, Ok, Err, List, OnOk}
use Rattle.bsi_aggregates.specs.QuestionReplies.{IsQuestionReply}
use Rattle.bsi_aggregates.specs.declared.answering.QuestionReply.{QuestionReply}
use Rattle.bsi_answers.specs.AskLines.{IsAskLineBy}
use Rattle.bsi_answers.specs.ReplyLines.{IsReplyLine}
use Rattle.bsi_rows.specs.Fields.{Field}
use Rattle.bsi_rows.specs.Rows.{feeders_of, SourcedRow}
use Rattle.bsi_rows.specs.declared.question.Question.{Question}
use Rattle.bsi_schema.specs.Columns.{Declared}
use Rattle.bsi_syntax.specs.Bytes.{Bytes}
use Rattle.bsi_syntax.specs.Notations.{AppendsText, NumberTexts}
use Rattle.bsi_syntax.specs.Questions.{IsQuestion}
use Rattle.bsi_syntax.specs.Vocabularies.{Words}
use Rattle.bsi_syntax.specs.declared.grammar.Grammar.{Grammar}

module _ (grammar : Grammar) (words : Words) (Of : NumberTexts) (schema : Declared) (rows : List SourcedRow) (fields : List Field) {E : Type 0} where
  -- a record that asks a question
  pub asked_record : (r : Result (Unit {0}) E) (old new : Bytes) (asked : Question) (replied : QuestionReply) → IsQuestion grammar words fields asked
      → IsQuestionReply schema rows asked replied → OnOk r (AppendsText (IsReplyLine Of (feeders_of rows) asked replied) old new)
      → OnOk r (AppendsText (IsAskLineBy grammar words Of schema rows fields) old new)
  asked_record (Ok done) old new asked replied is answered line =
      record { text = line.text; is = inr (record { asked = asked; is = is; answered = (replied, answered, line.is) }); written = line.written }
  asked_record (Err why) old new asked replied is answered line = tt
