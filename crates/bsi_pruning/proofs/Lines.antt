-- The lines of replies to questions over some columns are those over all.
use Rattle.std.proofs.Common.{◌≡◌, ◌↔◌, ℕ, suc, Bool, false, true, List, [], ◌∷◌, Option, ℤ, length, map, get_or, refl, ap, ◌∙◌, arith}
use Rattle.std.specs.Prelude.{All, Contains, Ok, Err, codes}
use Rattle.std.specs.List.{items_where_true, AllZip}
use Rattle.std.proofs.lemmas.List.{get_or-map, length-map}
use Rattle.std.proofs.lemmas.List.Elements.{All-cons, All-contains, All-head, All-map, All-nil, All-tail}
use Rattle.bsi_schema.specs.Columns.{entry_at, Declared}
use Rattle.bsi_syntax.specs.Bytes.{Bytes}
use Rattle.bsi_syntax.specs.Notations.{NumberTexts}
use Rattle.bsi_rows.specs.Answers.{IsTotal}
use Rattle.bsi_rows.specs.Rows.{feeders_of, row_entries, SourcedRow}
use Rattle.bsi_rows.specs.declared.query.Answer.{Answer}
use Rattle.bsi_rows.specs.declared.query.Answer.TheVariants.{Count as count_answer, Sum as sum_answer, Value as value_answer, Rows as rows_answer}
use Rattle.bsi_rows.specs.declared.query.Pred.{Pred}
use Rattle.bsi_rows.specs.declared.query.Query.{Query}
use Rattle.bsi_rows.specs.declared.query.Total.{Total}
use Rattle.bsi_rows.specs.declared.query.Total.TheVariants.{Count, Sum, Least, Greatest, Median, Rank, Rows}
use Rattle.bsi_rows.specs.declared.question.Question.{Question}
use Rattle.bsi_rows.specs.declared.question.Question.TheVariants as question
use Rattle.bsi_table.specs.Totals.{IsTotalAt}
use Rattle.bsi_aggregates.specs.Groups.{keys_of, row_key, rows_with, selected_by, selected_keys, AreGroups, Grouped, GroupList}
use Rattle.bsi_aggregates.specs.QuestionReplies.{IsArrangedAnswer, IsQuestionReply}
use Rattle.bsi_aggregates.specs.declared.answering.QuestionReply.{QuestionReply}
use Rattle.bsi_aggregates.specs.declared.answering.QuestionReply.TheVariants as reply
use Rattle.bsi_answers.specs.ReplyLines.{total_column, AreEntryTexts, IsGroupsLine, IsGroupText, IsListLine, IsReplyLine, IsTopLine, IsTotalLine, IsValueText}
use Rattle.bsi_projection.specs.Chosen.{renumbered_total, Shows}
use Rattle.bsi_pruning.proofs.Asked.{renumbered_question}
use Rattle.bsi_projection.proofs.Both.{alike, along, pairs}

-- ---- lists of texts

module _ {X : Type 0} (P Q : X → Bytes → Type 0) where
  zip-turned : (items : List X) (texts : List Bytes) → ((x : X) → Contains items x → (text : Bytes) → P x text → Q x text) → AllZip P items texts → AllZip Q items texts
  zip-turned [] [] goes is = is
  zip-turned [] (text ∷ texts) goes is = is
  zip-turned (x ∷ items) [] goes is = is
  zip-turned (x ∷ items) (text ∷ texts) goes is = (
    goes x (0, omega arith, refl) text is.0,
    zip-turned items texts (λ y has other p. goes y (suc has.0, omega (arith, has.1), has.2) other p) is.1,
  )

  list-line : (word : Bytes) (items : List X) (line : Bytes) → ((x : X) → Contains items x → (text : Bytes) → P x text → Q x text)
      → IsListLine P word items line → IsListLine Q word items line
  list-line word items line goes is = record {
    text = is.text;
    texts_are = record {
      texts = is.texts_are.texts;
      each = zip-turned items is.texts_are.texts goes is.texts_are.each;
      text_is = is.texts_are.text_is;
    };
    line_is = is.line_is;
  }

-- ---- keys have an entry for each column

kept-all : {X : Type 0} (P : X → Type 0) (found : List Bool) (xs : List X) → All P xs → All P (items_where_true found xs)
kept-all P [] xs all = All-nil P
kept-all P (b ∷ found) [] all = All-nil P
kept-all P (true ∷ found) (x ∷ xs) all = All-cons P x (items_where_true found xs) (All-head P x xs all) (kept-all P found xs (All-tail P x xs all))
kept-all P (false ∷ found) (x ∷ xs) all = kept-all P found xs (All-tail P x xs all)

contains-map : {X Y : Type 0} (f : X → Y) (xs : List X) (x : X) → Contains xs x → Contains (map f xs) (f x)
contains-map f xs x has = (has.0, omega (arith, length-map xs f, has.1), get_or-map f xs has.0 x (f x) has.1 ∙ ap f has.2)

key-long : (found : List Bool) (cs : List ℕ) (rows : List SourcedRow) (groups : List Grouped) → All (Contains (selected_keys found cs rows)) (keys_of groups)
    → (group : Grouped) → Contains groups group → length group.entries ≡ length cs
key-long found cs rows groups had group has =
    let Long : List (Option ℤ) → Type 0 = λ key. length key ≡ length cs in
    All-contains Long (selected_keys found cs rows) group.entries
    (kept-all Long found (map (row_key cs) rows)
    (All-map Long (row_key cs) rows (λ k d below. length-map cs (λ c. entry_at (row_entries (get_or rows k d)) c))))
    (All-contains (Contains (selected_keys found cs rows)) (keys_of groups) group.entries had (contains-map (λ (g : Grouped). g.entries) groups group has))

-- ---- totals of no column have no number

abbrev NoNumber : Answer → Type 0
NoNumber (count_answer n) = Unit {0}
NoNumber (sum_answer n) = ⊥
NoNumber (value_answer n) = ⊥
NoNumber (rows_answer listed) = Unit {0}

abbrev Suits : Total → Answer → Type 0
Suits Count answer = NoNumber answer
Suits (Sum c) answer = Unit {0}
Suits (Least c) answer = Unit {0}
Suits (Greatest c) answer = Unit {0}
Suits (Median c) answer = Unit {0}
Suits (Rank c rank) answer = Unit {0}
Suits Rows answer = NoNumber answer

suits-free : (total : Total) (answer : Answer) → NoNumber answer → Suits total answer
suits-free Count answer none = none
suits-free (Sum c) answer none = tt
suits-free (Least c) answer none = tt
suits-free (Greatest c) answer none = tt
suits-free (Median c) answer none = tt
suits-free (Rank c rank) answer none = tt
suits-free Rows answer none = none

counted : (n : ℕ) (answer : Answer) → answer ≡ count_answer n → NoNumber answer
counted n (count_answer m) is = tt
counted n (sum_answer m) is = cc
counted n (value_answer m) is = cc
counted n (rows_answer m) is = tt

suits-at : (total : Total) (found : List Bool) (rows : List SourcedRow) (answer : Answer) → IsTotalAt total found rows answer → Suits total answer
suits-at Count found rows answer is = counted _ answer is
suits-at (Sum c) found rows answer is = tt
suits-at (Least c) found rows answer is = tt
suits-at (Greatest c) found rows answer is = tt
suits-at (Median c) found rows answer is = tt
suits-at (Rank c rank) found rows answer is = tt
suits-at Rows found rows (count_answer n) is = tt
suits-at Rows found rows (sum_answer n) is = is
suits-at Rows found rows (value_answer n) is = is
suits-at Rows found rows (rows_answer n) is = tt

suits-total : (total : Total) (pred : Pred) (rows : List SourcedRow) (answer : Answer) → IsTotal total pred rows answer → Suits total answer
suits-total Count pred rows answer is = counted _ answer is
suits-total (Sum c) pred rows answer is = tt
suits-total (Least c) pred rows answer is = tt
suits-total (Greatest c) pred rows answer is = tt
suits-total (Median c) pred rows answer is = tt
suits-total (Rank c rank) pred rows answer is = tt
suits-total Rows pred rows (count_answer n) is = tt
suits-total Rows pred rows (sum_answer n) is = is
suits-total Rows pred rows (value_answer n) is = is
suits-total Rows pred rows (rows_answer n) is = tt

suits-arranged : (query : Query) (rows : List SourcedRow) (answer : Answer) → IsArrangedAnswer query rows answer → Suits query.total answer
suits-arranged query rows (count_answer n) is = suits-free query.total (count_answer n) tt
suits-arranged query rows (sum_answer n) is = suits-total query.total query.pred rows (sum_answer n) is
suits-arranged query rows (value_answer n) is = suits-total query.total query.pred rows (value_answer n) is
suits-arranged query rows (rows_answer listed) is = suits-free query.total (rows_answer listed) tt

-- ---- lines by the texts of other columns

module _ (by : ℕ → ℕ) (Of : NumberTexts) where
  -- no text of a number of such an answer
  value-free : (Is Also : ℤ → Bytes → Type 0) (answer : Answer) (text : Bytes) → NoNumber answer → IsValueText Is answer text ↔ IsValueText Also answer text
  value-free Is Also (count_answer n) text none = alike
  value-free Is Also (sum_answer n) text none = absurd none
  value-free Is Also (value_answer n) text none = absurd none
  value-free Is Also (rows_answer n) text none = alike

  value-text : (total : Total) (answer : Answer) (text : Bytes) → Suits total answer
      → IsValueText (Of (by (total_column total))) answer text ↔ IsValueText (Of (total_column (renumbered_total by total))) answer text
  value-text Count answer text suits = value-free (Of (by 0)) (Of 0) answer text suits
  value-text (Sum c) answer text suits = alike
  value-text (Least c) answer text suits = alike
  value-text (Greatest c) answer text suits = alike
  value-text (Median c) answer text suits = alike
  value-text (Rank c rank) answer text suits = alike
  value-text Rows answer text suits = value-free (Of (by 0)) (Of 0) answer text suits

  line-free : (Is Also : ℤ → Bytes → Type 0) (answer : Answer) (line : Bytes) → NoNumber answer → IsTotalLine Is (Ok answer) line ↔ IsTotalLine Also (Ok answer) line
  line-free Is Also (count_answer n) line none = alike
  line-free Is Also (sum_answer n) line none = absurd none
  line-free Is Also (value_answer n) line none = absurd none
  line-free Is Also (rows_answer n) line none = alike

  total-line : (total : Total) (answer : Answer) (line : Bytes) → Suits total answer
      → IsTotalLine (Of (by (total_column total))) (Ok answer) line ↔ IsTotalLine (Of (total_column (renumbered_total by total))) (Ok answer) line
  total-line Count answer line suits = line-free (Of (by 0)) (Of 0) answer line suits
  total-line (Sum c) answer line suits = alike
  total-line (Least c) answer line suits = alike
  total-line (Greatest c) answer line suits = alike
  total-line (Median c) answer line suits = alike
  total-line (Rank c rank) answer line suits = alike
  total-line Rows answer line suits = line-free (Of (by 0)) (Of 0) answer line suits

  entry-texts : (cs : List ℕ) (entries : List (Option ℤ)) (texts : List Bytes) → length entries ≡ length cs
      → AreEntryTexts (λ c. Of (by c)) cs entries texts ↔ AreEntryTexts Of (map by cs) entries texts
  unfolding AreEntryTexts
  entry-texts [] [] [] long = alike
  entry-texts [] [] (text ∷ texts) long = alike
  entry-texts [] (entry ∷ entries) texts long = absurd (omega (arith, long))
  entry-texts (c ∷ cs) [] texts long = absurd (omega (arith, long))
  entry-texts (c ∷ cs) (entry ∷ entries) [] long = alike
  entry-texts (c ∷ cs) (entry ∷ entries) (text ∷ texts) long = pairs alike (entry-texts cs entries texts (omega (arith, long)))

  group-text : (total : Total) (cs : List ℕ) (group : Grouped) → length group.entries ≡ length cs → Suits total group.answer → (text : Bytes)
      → IsGroupText (λ c. Of (by c)) cs (total_column total) group text ↔ IsGroupText Of (map by cs) (total_column (renumbered_total by total)) group text
  group-text total cs group long suits text = (
    λ is. record {
      entries = is.entries;
      answer = is.answer;
      entries_are = record {
        texts = is.entries_are.texts;
        each = (entry-texts cs group.entries is.entries_are.texts long).0 is.entries_are.each;
        text_is = is.entries_are.text_is;
      };
      answer_is = (value-text total group.answer is.answer suits).0 is.answer_is;
      text_is = is.text_is;
    },
    λ is. record {
      entries = is.entries;
      answer = is.answer;
      entries_are = record {
        texts = is.entries_are.texts;
        each = (entry-texts cs group.entries is.entries_are.texts long).1 is.entries_are.each;
        text_is = is.entries_are.text_is;
      };
      answer_is = (value-text total group.answer is.answer suits).1 is.answer_is;
      text_is = is.text_is;
    },
  )

  groups-line : (total : Total) (found : List Bool) (cs : List ℕ) (rows : List SourcedRow) (made : GroupList) (line : Bytes) → AreGroups total found cs rows made.groups
      → IsGroupsLine (λ c. Of (by c)) cs (total_column total) (Ok made) line ↔ IsGroupsLine Of (map by cs) (total_column (renumbered_total by total)) (Ok made) line
  groups-line total found cs rows made line are =
      let one : (group : Grouped) → Contains made.groups group → (text : Bytes)
      → IsGroupText (λ c. Of (by c)) cs (total_column total) group text ↔ IsGroupText Of (map by cs) (total_column (renumbered_total by total)) group text =
      λ group has text. group-text total cs group (key-long found cs rows made.groups are.had group has)
      (suits-at total (rows_with found cs rows group.entries) rows group.answer
      (All-contains (λ (g : Grouped). IsTotalAt total (rows_with found cs rows g.entries) rows g.answer) made.groups group are.answers has)) text in (
        list-line (IsGroupText (λ c. Of (by c)) cs (total_column total)) (IsGroupText Of (map by cs) (total_column (renumbered_total by total))) (codes "groups") made.groups line
            (λ group has text is. (one group has text).0 is),
        list-line (IsGroupText Of (map by cs) (total_column (renumbered_total by total))) (IsGroupText (λ c. Of (by c)) cs (total_column total)) (codes "groups") made.groups line
            (λ group has text is. (one group has text).1 is),
      )

  -- a reply has the lines that it has as one to the renumbered question
  pub line-shown : (rows shown : List SourcedRow) → Shows by rows shown → (narrow : Declared) (asked : Question) (replied : QuestionReply) (line : Bytes)
      → IsQuestionReply narrow shown asked replied
      → IsReplyLine (λ c. Of (by c)) (feeders_of shown) asked replied line ↔ IsReplyLine Of (feeders_of rows) (renumbered_question by asked) replied line
  line-shown rows shown show narrow (question.Total query) (reply.Total (Ok answer)) line is = total-line query.total answer line (suits-arranged query shown answer is.1)
  line-shown rows shown show narrow (question.Total query) (reply.Total (Err why)) line is = alike
  line-shown rows shown show narrow (question.Groups query cs) (reply.Groups (Ok made)) line is =
      groups-line query.total (selected_by query shown) cs.items shown made line is.1
  line-shown rows shown show narrow (question.Groups query cs) (reply.Groups (Err why)) line is = alike
  line-shown rows shown show narrow (question.Top extreme c most pred) (reply.Top replied) line is =
      along (λ (feeders : List ℕ). IsTopLine (Of (by c)) feeders replied line) show.feeders
  line-shown rows shown show narrow (question.Distinct c pred) (reply.Distinct replied) line is = alike
  line-shown rows shown show narrow (question.Quantile share c pred) (reply.Quantile replied) line is = alike
  line-shown rows shown show narrow asked replied line is = absurd is
