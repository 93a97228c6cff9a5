-- Answers as their lines show them.
use Rattle.std.proofs.Common.{◌≡◌, ℕ, zero, suc, ◌+◌, List, [], ◌∷◌, Result, Ok, Err, subst, refl, ap, sym, ◌∙◌, inl, inr, map, arith, slice_index_or}
use Rattle.bsi_rows.specs.Runs.{rows_from}
use Rattle.bsi_rows.specs.Fields.{Field}
use Rattle.bsi_schema.specs.Columns.{Declared}
use Rattle.bsi_rows.specs.Rows.{SourcedRow}
use Rattle.bsi_rows.specs.declared.errors.AskError.{AskError}
use Rattle.bsi_rows.specs.declared.errors.AskError.TheVariants as ask
use Rattle.bsi_rows.specs.declared.query.Answer.{Answer}
use Rattle.bsi_rows.specs.declared.query.Query.{Query}
use Rattle.bsi_rows.specs.declared.question.Question.{Question}
use Rattle.bsi_rows.specs.declared.question.Question.TheVariants as question
use Rattle.bsi_syntax.specs.Events.{IsQuery}
use Rattle.bsi_syntax.specs.Questions.{IsQuestion}
use Rattle.bsi_aggregates.specs.QuestionReplies.{IsArrangedReply}
use Rattle.bsi_aggregates.specs.declared.answering.QuestionReply.TheVariants as reply
use Rattle.bsi_answers.specs.AskLines.{IsAskLine, IsQuestionLine}
use Rattle.bsi_syntax.specs.declared.grammar.Grammar.TheVariants.{Script}
use Rattle.bsi_syntax.specs.Vocabularies.{schema_vocabulary}
use Rattle.std.specs.List.{AllZip}
use Rattle.bsi_answers.specs.Mixes.{file_by_file, HaveSameFeederRows, IsInterleavingOf}
use Rattle.bsi_answers.specs.RowFiles.{file_at, FedCounts, RowFile}
use Rattle.bsi_answers.specs.Runs.{AreLines}
use Rattle.bsi_answers.proofs.Ordered.{from_order}
use Rattle.bsi_answers.proofs.Replies.{total_line}
use Rattle.bsi_answers.proofs.WholeNumbers.{its_total}
use Rattle.bsi_answers.specs.ReplyLines.{total_column}
use Rattle.bsi_syntax.specs.Notations.{whole_texts}
use Rattle.bsi_answers.proofs.Selecting.{shown_too}

reply_too : (schema : Declared) (a b : List SourcedRow) → HaveSameFeederRows a b → (query : Query) (reply : Result Answer AskError) → IsArrangedReply schema a query reply
    → IsArrangedReply schema b query reply
reply_too schema a b alike query (Ok answer) is = (is.0, shown_too a b alike query answer is.1)
reply_too schema a b alike query (Err ask.NoMemory) is = is
reply_too schema a b alike query (Err (ask.BadColumn c)) is = is

-- what a script asks is a query
pub its_query : (schema : Declared) (fields : List Field) (asked : Question) → IsQuestion Script (schema_vocabulary schema) fields asked
    → (query : Query) × IsQuery schema fields query × (asked ≡ question.Total query)
its_query schema fields (question.Total query) is = (query, is, refl)
its_query schema fields (question.Groups query by) is = absurd is
its_query schema fields (question.Top end c most pred) is = absurd is
its_query schema fields (question.Distinct c pred) is = absurd is
its_query schema fields (question.Quantile share c pred) is = absurd is

line_too : (schema : Declared) (a b : List SourcedRow) → HaveSameFeederRows a b → (fields : List Field) (line : List ℕ) → IsAskLine Script schema a fields line → IsAskLine Script schema b fields line
line_too schema a b alike fields line (inl none) = inl none
line_too schema a b alike fields line (inr asks) =
    let it = its_query schema fields asks.asked asks.is in
    let of_query = total_line schema a it.0 line (subst (λ (asked : Question). IsQuestionLine whole_texts schema a asked line) it.2 asks.answered) in
    inr (record {
      asked = question.Total it.0;
      is = it.1;
      answered = (reply.Total of_query.0, reply_too schema a b alike it.0 of_query.0 of_query.1, its_total (total_column it.0.total) of_query.0 line of_query.2);
    })

each_too : (schema : Declared) (a b : List SourcedRow) → HaveSameFeederRows a b → (records : List (List Field)) (lines : List (List ℕ)) → AllZip (IsAskLine Script schema a) records lines
    → AllZip (IsAskLine Script schema b) records lines
each_too schema a b alike [] [] are = tt
each_too schema a b alike [] (line ∷ lines) are = absurd are
each_too schema a b alike (fields ∷ records) [] are = absurd are
each_too schema a b alike (fields ∷ records) (line ∷ lines) are = (line_too schema a b alike fields line are.0, each_too schema a b alike records lines are.1)

-- the lines are those of any list with the same rows of each feeder
pub lines_too : (schema : Declared) (a b : List SourcedRow) (counts : List FedCounts) (records : List (List Field)) (lines : List (List ℕ)) → HaveSameFeederRows a b
    → AreLines schema a counts records lines → AreLines schema b counts records lines
lines_too schema a b counts records lines alike are = record {
  answers = are.answers;
  each = each_too schema a b alike records are.answers are.each;
  lines_are = are.lines_are;
}

rows_at : (files : List RowFile) (f : ℕ) → slice_index_or (map (λ file. file.rows) files) f [] ≡ (file_at files f).rows
rows_at [] f = refl
rows_at (file ∷ files) zero = refl
rows_at (file ∷ files) (suc f) = rows_at files f

-- so they are those of the files' rows, one file after the other
pub file_by_file_too : (files : List RowFile) (rows : List SourcedRow) → IsInterleavingOf files rows → HaveSameFeederRows rows (file_by_file 0 (map (λ file. file.rows) files))
file_by_file_too files rows mix f =
    let at : 0 + f ≡ f = omega arith in
    mix f ∙ (sym (rows_at files f) ∙ (sym (from_order 0 (map (λ (file : RowFile). file.rows) files) f)
    ∙ ap (λ g. rows_from g (file_by_file 0 (map (λ (file : RowFile). file.rows) files))) at))
