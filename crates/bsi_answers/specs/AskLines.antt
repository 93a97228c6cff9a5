-- The line that answers a record of the asks file, by what its words mean and how numbers are written (`IsAskLineBy`), and
-- in an index of whole numbers (`IsAskLine`).
use Rattle.std.specs.Prelude.{◌≡◌, ◌⊎◌, List}
use Rattle.bsi_aggregates.specs.QuestionReplies.{IsQuestionReply}
use Rattle.bsi_aggregates.specs.declared.answering.QuestionReply.{QuestionReply}
use Rattle.bsi_syntax.specs.Bytes.{Bytes}
use Rattle.bsi_syntax.specs.Lines.{bad_line}
use Rattle.bsi_syntax.specs.Notations.{whole_texts, NumberTexts}
use Rattle.bsi_rows.specs.Fields.{Field}
use Rattle.bsi_syntax.specs.Questions.{IsQuestion}
use Rattle.bsi_syntax.specs.declared.grammar.Grammar.{Grammar}
use Rattle.bsi_syntax.specs.Vocabularies.{schema_vocabulary, Words}
use Rattle.bsi_rows.specs.Rows.{feeders_of, SourcedRow}
use Rattle.bsi_rows.specs.declared.question.Question.{Question}
use Rattle.bsi_schema.specs.Columns.{Declared}
use Rattle.bsi_answers.specs.ReplyLines.{IsReplyLine}

-- The line of the reply to a question over rows, where numbers of a column have texts `Of` it.
abbrev pub IsQuestionLine : NumberTexts → Declared → List SourcedRow → Question → Bytes → Type 0
IsQuestionLine Of schema rows asked line =
    (reply : QuestionReply) × IsQuestionReply schema rows asked reply × IsReplyLine Of (feeders_of rows) asked reply line

-- A record that asks no question is answered `bad`.
pub record AsksNothing (grammar : Grammar) (words : Words) (fields : List Field) (line : Bytes) : Type 0 where
  pub none : (asked : Question) → IsQuestion grammar words fields asked → ⊥
  pub line_is : line ≡ bad_line

-- A record that asks a question is answered by the line of its reply over the rows.
pub record Asks (grammar : Grammar) (words : Words) (Of : NumberTexts) (schema : Declared) (rows : List SourcedRow)
    (fields : List Field) (line : Bytes) : Type 0 where
  pub asked : Question
  pub is : IsQuestion grammar words fields asked
  pub answered : IsQuestionLine Of schema rows asked line

-- The line of a record, where its words mean `words`, and numbers of a column have texts `Of` it.
abbrev pub IsAskLineBy : Grammar → Words → NumberTexts → Declared → List SourcedRow → List Field → Bytes → Type 0
IsAskLineBy grammar words Of schema rows fields line =
    AsksNothing grammar words fields line ⊎ Asks grammar words Of schema rows fields line

-- The line of a record in an index of whole numbers.
abbrev pub IsAskLine : Grammar → Declared → List SourcedRow → List Field → Bytes → Type 0
IsAskLine grammar schema rows fields line = IsAskLineBy grammar (schema_vocabulary schema) whole_texts schema rows fields line
