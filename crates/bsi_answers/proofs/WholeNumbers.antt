-- The lines of replies where numbers are written as whole numbers: each reply has one (`question_reply_line`).
use Rattle.std.proofs.Common.{◌≡◌, ℕ, ℤ, List, [], ◌∷◌, ◌++◌, Option, Some, None, Result, Ok, Err, map, refl, ap, ap₂, sym, ◌∙◌}
use Rattle.std.specs.Prelude.{codes, drop, slice_index}
use Rattle.std.specs.Fmt.{signed_decimal}
use Rattle.std.specs.List.{concat, flat_map, AllZip}
use Rattle.std.specs.declared.alloc.Global.{Global}
use Rattle.std.specs.declared.vec.Vec.{Vec}
use Rattle.std.proofs.lemmas.List.Concat.{flat_map-cons}
use Rattle.bsi_aggregates.specs.Groups.{Grouped, GroupList}
use Rattle.bsi_aggregates.specs.declared.answering.QuestionReply.{QuestionReply}
use Rattle.bsi_aggregates.specs.declared.answering.QuestionReply.TheVariants as reply
use Rattle.bsi_aggregates.specs.declared.grouping.GroupError.{GroupError}
use Rattle.bsi_aggregates.specs.declared.tops.TopRow.{TopRow}
use Rattle.bsi_rows.specs.declared.errors.AskError.{AskError}
use Rattle.bsi_rows.specs.declared.query.Answer.{Answer}
use Rattle.bsi_rows.specs.declared.query.Answer.TheVariants.{Count, Sum, Value, Rows}
use Rattle.bsi_rows.specs.declared.question.Question.{Question}
use Rattle.bsi_syntax.specs.Bytes.{Bytes}
use Rattle.bsi_syntax.specs.Lines.{ask_line}
use Rattle.bsi_syntax.specs.Notations.{whole_texts}
use Rattle.bsi_answers.specs.ReplyLines.{asked_column, entries_text, entry_text, group_columns, group_text, groups_line, joined, origin_text, question_reply_line, row_text, top_line, value_text, AreEntryTexts, IsEntryText, IsGroupText, IsGroupsLine, IsListLine, IsReplyLine, IsRowText, IsTopLine, IsTotalLine, IsValueText}

-- ---- totals

pub only_total : (c : ℕ) (replied : Result Answer AskError) (line : Bytes) → IsTotalLine (whole_texts c) replied line → line ≡ ask_line replied
only_total c (Ok (Sum sum)) line is = is.line_is ∙ ap (λ text. codes "sum " ++ text ++ codes "\n") is.text_is
only_total c (Ok (Value (Some number))) line is = is.line_is ∙ ap (λ text. codes "value " ++ text ++ codes "\n") is.text_is
only_total c (Ok (Value None)) line is = is
only_total c (Ok (Count count)) line is = is
only_total c (Ok (Rows listed)) line is = is
only_total c (Err refused) line is = is

pub its_total : (c : ℕ) (replied : Result Answer AskError) (line : Bytes) → line ≡ ask_line replied → IsTotalLine (whole_texts c) replied line
its_total c (Ok (Sum sum)) line is = record { text = signed_decimal sum; text_is = refl; line_is = is }
its_total c (Ok (Value (Some number))) line is = record { text = signed_decimal number; text_is = refl; line_is = is }
its_total c (Ok (Value None)) line is = is
its_total c (Ok (Count count)) line is = is
its_total c (Ok (Rows listed)) line is = is
its_total c (Err refused) line is = is

-- ---- entries

only_entry : (c : ℕ) (entry : Option ℤ) (text : Bytes) → IsEntryText (whole_texts c) entry text → text ≡ entry_text entry
only_entry c None text is = is
only_entry c (Some number) text is = is

its_entry : (c : ℕ) (entry : Option ℤ) → IsEntryText (whole_texts c) entry (entry_text entry)
its_entry c None = refl
its_entry c (Some number) = refl

only_entries : (by : List ℕ) (entries : List (Option ℤ)) (texts : List Bytes) → AreEntryTexts whole_texts by entries texts → joined texts ≡ entries_text entries
unfolding AreEntryTexts joined
only_entries by [] [] each = refl
only_entries by [] (text ∷ texts) each = absurd each
only_entries by (entry ∷ entries) [] each = absurd each
only_entries by (entry ∷ []) (text ∷ []) each = only_entry (slice_index by 0) entry text each.0
only_entries by (entry ∷ []) (text ∷ next ∷ texts) each = absurd each.1
only_entries by (entry ∷ other ∷ entries) (text ∷ []) each = absurd each.1
only_entries by (entry ∷ other ∷ entries) (text ∷ next ∷ texts) each =
    ap₂ (λ (a b : Bytes). a ++ codes ":" ++ b) (only_entry (slice_index by 0) entry text each.0) (only_entries (drop 1 by) (other ∷ entries) (next ∷ texts) each.1)

its_entries : (by : List ℕ) (entries : List (Option ℤ)) → AreEntryTexts whole_texts by entries (map entry_text entries)
unfolding AreEntryTexts
its_entries by [] = tt
its_entries by (entry ∷ entries) = (its_entry (slice_index by 0) entry, its_entries (drop 1 by) entries)

entries_joined : (entries : List (Option ℤ)) → entries_text entries ≡ joined (map entry_text entries)
unfolding joined
entries_joined [] = refl
entries_joined (entry ∷ []) = refl
entries_joined (entry ∷ next ∷ entries) = ap (λ rest. entry_text entry ++ codes ":" ++ rest) (entries_joined (next ∷ entries))

-- ---- groups and rows

only_value : (c : ℕ) (answer : Answer) (text : Bytes) → IsValueText (whole_texts c) answer text → text ≡ value_text answer
only_value c (Count count) text is = is
only_value c (Sum sum) text is = is
only_value c (Value None) text is = is
only_value c (Value (Some number)) text is = is
only_value c (Rows listed) text is = is

its_value : (c : ℕ) (answer : Answer) → IsValueText (whole_texts c) answer (value_text answer)
its_value c (Count count) = refl
its_value c (Sum sum) = refl
its_value c (Value None) = refl
its_value c (Value (Some number)) = refl
its_value c (Rows listed) = refl

only_group : (by : List ℕ) (c : ℕ) (group : Grouped) (text : Bytes) → IsGroupText whole_texts by c group text → text ≡ group_text group
only_group by c group text is =
    let entries : is.entries ≡ entries_text group.entries = is.entries_are.text_is ∙ only_entries by group.entries is.entries_are.texts is.entries_are.each in
    is.text_is ∙ ap₂ (λ (a b : Bytes). codes " " ++ a ++ codes "=" ++ b) entries (only_value c group.answer is.answer is.answer_is)

its_group : (by : List ℕ) (c : ℕ) (group : Grouped) → IsGroupText whole_texts by c group (group_text group)
its_group by c group = record {
  entries = entries_text group.entries;
  answer = value_text group.answer;
  entries_are = record { texts = map entry_text group.entries; each = its_entries by group.entries; text_is = entries_joined group.entries };
  answer_is = its_value c group.answer;
  text_is = refl;
}

only_row : (c : ℕ) (feeders : List ℕ) (row : TopRow) (text : Bytes) → IsRowText (whole_texts c) feeders row text → text ≡ row_text feeders row
only_row c feeders row text is =
    is.text_is ∙ ap (λ number. origin_text feeders row ++ number) is.number_is

its_row : (c : ℕ) (feeders : List ℕ) (row : TopRow) → IsRowText (whole_texts c) feeders row (row_text feeders row)
its_row c feeders row = record { number = signed_decimal row.number; number_is = refl; text_is = refl }

-- ---- lists

module _ {X : Type 0} (Is : X → Bytes → Type 0) (text_of : X → Bytes) where
  only_texts : ((x : X) (text : Bytes) → Is x text → text ≡ text_of x) → (xs : List X) (texts : List Bytes) → AllZip Is xs texts → concat texts ≡ flat_map text_of xs
  only_texts only [] [] each = refl
  only_texts only [] (text ∷ texts) each = absurd each
  only_texts only (x ∷ xs) [] each = absurd each
  only_texts only (x ∷ xs) (text ∷ texts) each =
      ap₂ (λ (a b : Bytes). a ++ b) (only x text each.0) (only_texts only xs texts each.1) ∙ sym (flat_map-cons text_of x xs)

  its_texts : ((x : X) → Is x (text_of x)) → (xs : List X) → AllZip Is xs (map text_of xs)
  its_texts its [] = tt
  its_texts its (x ∷ xs) = (its x, its_texts its xs)

  texts_joined : (xs : List X) → flat_map text_of xs ≡ concat (map text_of xs)
  texts_joined [] = refl
  texts_joined (x ∷ xs) = flat_map-cons text_of x xs ∙ ap (λ rest. text_of x ++ rest) (texts_joined xs)

  only_list : ((x : X) (text : Bytes) → Is x text → text ≡ text_of x) → (word : Bytes) (xs : List X) (line : Bytes) → IsListLine Is word xs line
      → line ≡ word ++ flat_map text_of xs ++ codes "\n"
  only_list only word xs line is =
      let text : is.text ≡ flat_map text_of xs = is.texts_are.text_is ∙ only_texts only xs is.texts_are.texts is.texts_are.each in
      is.line_is ∙ ap (λ t. word ++ t ++ codes "\n") text

  its_list : ((x : X) → Is x (text_of x)) → (word : Bytes) (xs : List X) (line : Bytes) → line ≡ word ++ flat_map text_of xs ++ codes "\n" → IsListLine Is word xs line
  its_list its word xs line is = record {
    text = flat_map text_of xs;
    texts_are = record { texts = map text_of xs; each = its_texts its xs; text_is = texts_joined xs };
    line_is = is;
  }

-- ---- replies

only_groups : (by : List ℕ) (c : ℕ) (replied : Result GroupList GroupError) (line : Bytes) → IsGroupsLine whole_texts by c replied line → line ≡ groups_line replied
only_groups by c (Ok made) line is = only_list (IsGroupText whole_texts by c) group_text (only_group by c) (codes "groups") made.groups line is
only_groups by c (Err why) line is = is

its_groups : (by : List ℕ) (c : ℕ) (replied : Result GroupList GroupError) (line : Bytes) → line ≡ groups_line replied → IsGroupsLine whole_texts by c replied line
its_groups by c (Ok made) line is = its_list (IsGroupText whole_texts by c) group_text (its_group by c) (codes "groups") made.groups line is
its_groups by c (Err why) line is = is

only_top : (c : ℕ) (feeders : List ℕ) (replied : Result (Vec TopRow Global) AskError) (line : Bytes) → IsTopLine (whole_texts c) feeders replied line
    → line ≡ top_line feeders replied
only_top c feeders (Ok listed) line is = only_list (IsRowText (whole_texts c) feeders) (row_text feeders) (only_row c feeders) (codes "top") listed.items line is
only_top c feeders (Err refused) line is = is

its_top : (c : ℕ) (feeders : List ℕ) (replied : Result (Vec TopRow Global) AskError) (line : Bytes) → line ≡ top_line feeders replied
    → IsTopLine (whole_texts c) feeders replied line
its_top c feeders (Ok listed) line is = its_list (IsRowText (whole_texts c) feeders) (row_text feeders) (its_row c feeders) (codes "top") listed.items line is
its_top c feeders (Err refused) line is = is

pub only_line : (feeders : List ℕ) (asked : Question) (replied : QuestionReply) (line : Bytes) → IsReplyLine whole_texts feeders asked replied line
    → line ≡ question_reply_line feeders replied
only_line feeders asked (reply.Total replied) line is = only_total (asked_column asked) replied line is
only_line feeders asked (reply.Groups replied) line is = only_groups (group_columns asked) (asked_column asked) replied line is
only_line feeders asked (reply.Top replied) line is = only_top (asked_column asked) feeders replied line is
only_line feeders asked (reply.Distinct replied) line is = is
only_line feeders asked (reply.Quantile (Ok number)) line is = only_total (asked_column asked) (Ok (Value number)) line is
only_line feeders asked (reply.Quantile (Err refused)) line is = is

pub its_line : (feeders : List ℕ) (asked : Question) (replied : QuestionReply) (line : Bytes) → line ≡ question_reply_line feeders replied
    → IsReplyLine whole_texts feeders asked replied line
its_line feeders asked (reply.Total replied) line is = its_total (asked_column asked) replied line is
its_line feeders asked (reply.Groups replied) line is = its_groups (group_columns asked) (asked_column asked) replied line is
its_line feeders asked (reply.Top replied) line is = its_top (asked_column asked) feeders replied line is
its_line feeders asked (reply.Distinct replied) line is = is
its_line feeders asked (reply.Quantile (Ok number)) line is = its_total (asked_column asked) (Ok (Value number)) line is
its_line feeders asked (reply.Quantile (Err refused)) line is = is
