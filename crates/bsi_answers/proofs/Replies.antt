-- Replies to questions, and their lines.
use Rattle.std.proofs.Common.{◌≡◌, ℕ, ◌<◌, ℤ, Bool, true, false, List, [], ◌++◌, Some, None, IfSome, Result, Ok, Err, length, slice_index_or, refl, ap, sym, subst, ◌∙◌, arith}
use Rattle.std.specs.Prelude.{nat_lt, OnOk}
use Rattle.std.proofs.lemmas.Bool.Decides.{nat_tests}
use Rattle.std.proofs.lemmas.List.{length-map}
use Rattle.bsi_schema.specs.Columns.{entry_at}
use Rattle.bsi_aggregates.proofs.TopsPlaces.{none_past}
use Rattle.bsi_syntax.specs.Lines.{ask_line}
use Rattle.bsi_rows.specs.Rows.{column_of, feeders_of, row_entries, SourcedRow}
use Rattle.bsi_rows.specs.declared.errors.AskError.{AskError}
use Rattle.bsi_rows.specs.declared.query.Answer.{Answer}
use Rattle.bsi_rows.specs.declared.query.Query.{Query}
use Rattle.bsi_rows.specs.declared.question.Question.{Question}
use Rattle.bsi_rows.specs.declared.question.Question.TheVariants as question
use Rattle.bsi_schema.specs.Columns.{Declared}
use Rattle.bsi_aggregates.specs.QuestionReplies.{IsArrangedReply, IsQuestionReply}
use Rattle.bsi_aggregates.specs.declared.answering.QuestionReply.{QuestionReply}
use Rattle.bsi_aggregates.specs.declared.answering.QuestionReply.TheVariants as reply
use Rattle.bsi_answers.specs.AskLines.{IsQuestionLine}
use Rattle.bsi_answers.specs.ReplyLines.{total_column, HasRowsWithin, IsReplyLine}
use Rattle.bsi_syntax.specs.Bytes.{Bytes}
use Rattle.bsi_syntax.specs.Notations.{whole_texts, AppendsText, NumberTexts}
use Rattle.bsi_answers.proofs.WholeNumbers.{only_total}

-- a row that has a number in a column is one of the rows
row_within : (rows : List SourcedRow) (c r : ℕ) (n : ℤ) → slice_index_or (column_of rows c) r None ≡ Some n → r < length rows
row_within rows c r n some = by (nat_lt r (length rows)) refl
  where
    long : length (column_of rows c) ≡ length rows
    long = length-map rows (λ row. entry_at (row_entries row) c)

    by : (b : Bool) → nat_lt r (length rows) ≡ b → r < length rows
    by true e = grind (arith, nat_tests)
    by false e =
        absurd (subst (λ o. IfSome o (λ m. ⊥)) some (none_past (column_of rows c) r (λ m. ⊥) (grind (arith, nat_tests, long))))

module _ (schema : Declared) (rows : List SourcedRow) where
  -- the rows of a reply are rows of the index
  pub rows_within : (asked : Question) (replied : QuestionReply) → IsQuestionReply schema rows asked replied → HasRowsWithin (length rows) replied
  rows_within asked (reply.Total replied) is = tt
  rows_within asked (reply.Groups replied) is = tt
  rows_within asked (reply.Distinct replied) is = tt
  rows_within asked (reply.Quantile replied) is = tt
  rows_within asked (reply.Top (Err refused)) is = tt
  rows_within (question.Top end c most pred) (reply.Top (Ok listed)) is =
      λ k d before. row_within rows c (slice_index_or listed.items k d).row (slice_index_or listed.items k d).number (is.1.had k d before).1
  rows_within (question.Total query) (reply.Top (Ok listed)) is = absurd is
  rows_within (question.Groups query by) (reply.Top (Ok listed)) is = absurd is
  rows_within (question.Distinct c pred) (reply.Top (Ok listed)) is = absurd is
  rows_within (question.Quantile share c pred) (reply.Top (Ok listed)) is = absurd is

  -- a reply that was written on an empty line
  pub line_alone : {E : Type 0} (Of : NumberTexts) (asked : Question) (replied : QuestionReply) (r : Result (Unit {0}) E) (old new : Bytes) → old ≡ []
      → IsQuestionReply schema rows asked replied → OnOk r (AppendsText (IsReplyLine Of (feeders_of rows) asked replied) old new)
      → OnOk r (IsQuestionLine Of schema rows asked new)
  line_alone Of asked replied (Ok done) old new empty is written = (
    replied,
    is,
    subst (λ (line : Bytes). IsReplyLine Of (feeders_of rows) asked replied line) (sym (written.written ∙ ap (λ (line : Bytes). line ++ written.text) empty)) written.is,
  )
  line_alone Of asked replied (Err e) old new empty is written = tt

  -- the line of a total
  pub total_line : (query : Query) (line : List ℕ) → IsQuestionLine whole_texts schema rows (question.Total query) line
      → (replied : Result Answer AskError) × IsArrangedReply schema rows query replied × (line ≡ ask_line replied)
  total_line query line has = by has.0 has.1 has.2
    where
      by : (r : QuestionReply) → IsQuestionReply schema rows (question.Total query) r → IsReplyLine whole_texts (feeders_of rows) (question.Total query) r line
          → (replied : Result Answer AskError) × IsArrangedReply schema rows query replied × (line ≡ ask_line replied)
      by (reply.Total replied) is same = (replied, is, only_total (total_column query.total) replied line same)
      by (reply.Groups replied) is same = absurd is
      by (reply.Top replied) is same = absurd is
      by (reply.Distinct replied) is same = absurd is
      by (reply.Quantile replied) is same = absurd is
