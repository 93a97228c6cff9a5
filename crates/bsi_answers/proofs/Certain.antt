-- The bytes of its files have one list of lines of a run, where no line says that memory was refused.
use Rattle.std.proofs.Common.{◌≡◌, ◌≢◌, ℕ, List, [], ◌∷◌, ◌++◌, length, map, Option, Some, None, Result, Ok, Err, All, IfSome, inl, inr, refl, ap, ap₂, sym, ◌∙◌, subst, option_and_then}
use Rattle.std.specs.Prelude.{codes}
use Rattle.std.specs.List.Sorted.{IsPermutation}
use Rattle.std.proofs.lemmas.List.Elements.{All-nil, All-head, All-tail}
use Rattle.std.proofs.lemmas.Option.{none-some, same_Some}
use Rattle.bsi_syntax.proofs.Spelling.{query_is_there, same_query}
use Rattle.bsi_syntax.specs.Lines.{answer_line, ask_line, no_memory_line, rows_text}
use Rattle.bsi_rows.specs.Fields.{Field}
use Rattle.bsi_syntax.specs.Setups.{table_after, undeclared_table}
use Rattle.bsi_syntax.specs.declared.setups.DeclaredTable.{DeclaredTable}
use Rattle.bsi_rows.specs.Numbering.{numbered_at}
use Rattle.bsi_rows.specs.Answers.{missing_column, IsAnswer, IsTotal}
use Rattle.bsi_schema.specs.Columns.{AreNamed, Declared}
use Rattle.bsi_rows.specs.Rows.{feeders_of, holds, selected, Entries, SourcedRow}
use Rattle.bsi_rows.specs.declared.errors.AskError.{AskError}
use Rattle.bsi_rows.specs.declared.errors.AskError.TheVariants as ask
use Rattle.bsi_rows.specs.declared.query.Answer.{Answer}
use Rattle.bsi_rows.specs.declared.query.Answer.TheVariants.{Count as count_answer, Sum as sum_answer, Value as value_answer, Rows as rows_answer}
use Rattle.bsi_rows.specs.declared.query.Query.{Query}
use Rattle.bsi_input.specs.Pasts.{NoneIsNoMemory}
use Rattle.bsi_input.specs.Formats.{bad_count, good_rows}
use Rattle.bsi_input.specs.RowFiles.{plain_format}
use Rattle.bsi_input.specs.SchemaTexts.{table_declared, Declares, IsSchemaText}
use Rattle.bsi_input.specs.Texts.{AreAllRecords}
use Rattle.bsi_input.proofs.Determined.{same_selected, same_total}
use Rattle.bsi_input.proofs.Named.{table_named}
use Rattle.bsi_syntax.specs.Events.{IsQuery}
use Rattle.bsi_rows.specs.declared.question.Question.{Question}
use Rattle.bsi_rows.specs.declared.question.Question.TheVariants as question
use Rattle.bsi_aggregates.specs.QuestionReplies.{IsArrangedAnswer, IsArrangedReply}
use Rattle.bsi_answers.specs.AskLines.{IsAskLine, IsQuestionLine}
use Rattle.bsi_answers.proofs.Showing.{its_query}
use Rattle.bsi_syntax.specs.declared.grammar.Grammar.TheVariants.{Script}
use Rattle.std.specs.List.{AllZip}
use Rattle.bsi_answers.specs.Mixes.{file_by_file}
use Rattle.bsi_answers.specs.RowFiles.{file_counts, file_rows, FedCounts, IsRowFile, RowFile}
use Rattle.bsi_answers.specs.Runs.{fed_lines, AreLines, IsRun}
use Rattle.bsi_answers.proofs.Places.{one_sorting}
use Rattle.bsi_answers.proofs.Replies.{total_line}
use Rattle.bsi_syntax.specs.Notations.{whole_texts}

abbrev OneReading : Type 0
OneReading = (bytes : List ℕ) → (a b : List (List Field)) → AreAllRecords bytes a → AreAllRecords bytes b → a ≡ b

-- ---- the schema file

one_table : OneReading → (bytes : List ℕ) (a b : DeclaredTable) → Declares bytes a → Declares bytes b → a ≡ b
one_table reading bytes a b one two =
    same_Some a b (sym one.declared_is ∙ (ap (λ records. table_declared undeclared_table records) (reading bytes one.records two.records one.all two.all) ∙ two.declared_is))

named_all : (before after : DeclaredTable) (records : List (List Field)) → AreNamed before.schema.columns → table_declared before records ≡ Some after → AreNamed after.schema.columns
named_all before after [] named is = subst (λ (d : DeclaredTable). AreNamed d.schema.columns) (same_Some before after is) named
named_all before after (fields ∷ records) named is =
    by (table_after before fields) (table_named before fields named) is (λ next now rest. named_all next after records now rest)
  where
    by : (o : Option DeclaredTable) → IfSome o (λ (d : DeclaredTable). AreNamed d.schema.columns) → option_and_then (λ next. table_declared next records) o ≡ Some after
        → ((next : DeclaredTable) → AreNamed next.schema.columns → table_declared next records ≡ Some after → AreNamed after.schema.columns) → AreNamed after.schema.columns
    by None now none go = absurd (cc (none))
    by (Some next) now rest go = go next now rest

names_of : (bytes : List ℕ) (schema : Declared) (limit : ℕ) → IsSchemaText bytes schema limit → AreNamed schema.columns
names_of bytes schema limit is = named_all undeclared_table (record { schema = schema; limit = limit }) is.declares.records (All-nil _) is.declares.declared_is

-- ---- the row files

one_file : OneReading → (schema : Declared) (bytes : List ℕ) (a b : RowFile) → IsRowFile (plain_format schema) bytes a → IsRowFile (plain_format schema) bytes b → a ≡ b
one_file reading schema bytes a b one two =
    let same : one.header ∷ one.records ≡ two.header ∷ two.records = reading bytes (one.header ∷ one.records) (two.header ∷ two.records) one.all two.all in
    let header : one.header ≡ two.header = cc (same) in
    let records : one.records ≡ two.records = cc (same) in
    made a.rows b.rows a.bad b.bad (one.rows_are ∙ (ap₂ (λ h rs. good_rows (plain_format schema) h rs) header records ∙ sym two.rows_are))
    (one.bad_is ∙ (ap₂ (λ h rs. bad_count (plain_format schema) h rs) header records ∙ sym two.bad_is))
  where
    made : (xs ys : List Entries) (m n : ℕ) → xs ≡ ys → m ≡ n
        → (let f : RowFile = record { rows = xs; bad = m } in let g : RowFile = record { rows = ys; bad = n } in f ≡ g)
    made xs ys m n rows bad = cc

one_files : OneReading → (schema : Declared) (texts : List (List ℕ)) (a b : List RowFile) → AllZip (IsRowFile (plain_format schema)) texts a → AllZip (IsRowFile (plain_format schema)) texts b → a ≡ b
one_files reading schema [] [] [] one two = refl
one_files reading schema [] (x ∷ a) b one two = absurd one
one_files reading schema [] [] (y ∷ b) one two = absurd two
one_files reading schema (text ∷ texts) [] b one two = absurd one
one_files reading schema (text ∷ texts) (x ∷ a) [] one two = absurd two
one_files reading schema (text ∷ texts) (x ∷ a) (y ∷ b) one two =
    ap₂ (λ f fs. f ∷ fs) (one_file reading schema text x y one.0 two.0) (one_files reading schema texts a b one.1 two.1)

-- ---- the answers

abbrev IsFound : List ℕ → Type 0
IsFound line = line ≢ no_memory_line

last_all : (xs ys : List (List ℕ)) → All IsFound (xs ++ ys) → All IsFound ys
last_all [] ys all = all
last_all (x ∷ xs) ys all = last_all xs ys (All-tail IsFound x (xs ++ ys) all)

module _ (schema : Declared) (rows : List SourcedRow) where
  -- the answer, where memory was found and the columns are there
  shown : (query : Query) (r : Result Answer AskError) → missing_column (length schema.columns) query ≡ None → IsArrangedReply schema rows query r
      → ask_line r ≢ no_memory_line → (answer : Answer) × (r ≡ Ok answer) × IsArrangedAnswer query rows answer
  shown query (Ok answer) there is found = (answer, refl, is.1)
  shown query (Err (ask.BadColumn c)) there is found = absurd (none-some c (sym there ∙ is.0))
  shown query (Err ask.NoMemory) there is found = absurd (found refl)

  module _ (p q : Query) (totals : p.total ≡ q.total) (same : (row : Entries) → holds p.pred row ≡ holds q.pred row) where
    -- an answer that lists no rows is that of the plain definition
    plain : (a b : Answer) → IsAnswer p rows a → IsAnswer q rows b → answer_line a ≡ answer_line b
    plain a b one two =
        same_total p.pred q.pred same rows q.total a b (subst (λ t. IsTotal t p.pred rows a) totals one) two

    listed : (x y : Answer) → IsArrangedAnswer p rows x → IsArrangedAnswer q rows y → answer_line x ≡ answer_line y
    listed (rows_answer x) (rows_answer y) one two =
        let chosen : selected p.pred rows ≡ selected q.pred rows = same_selected p.pred q.pred same rows in
        let sorted : IsPermutation (numbered_at (feeders_of rows) (selected q.pred rows)) x.items =
        subst (λ places. IsPermutation (numbered_at (feeders_of rows) places) x.items) chosen one.1 in
        ap (λ items. codes "rows" ++ rows_text items ++ codes "\n")
        (one_sorting (numbered_at (feeders_of rows) (selected q.pred rows)) x.items y.items sorted one.2 two.1 two.2)
    listed (rows_answer x) (count_answer n) one two = absurd (subst (λ t. IsTotal t q.pred rows (count_answer n)) (sym totals ∙ one.0) two)
    listed (rows_answer x) (sum_answer n) one two = absurd (subst (λ t. IsTotal t q.pred rows (sum_answer n)) (sym totals ∙ one.0) two)
    listed (rows_answer x) (value_answer n) one two = absurd (subst (λ t. IsTotal t q.pred rows (value_answer n)) (sym totals ∙ one.0) two)
    listed (count_answer n) (rows_answer y) one two = absurd (subst (λ t. IsTotal t p.pred rows (count_answer n)) (totals ∙ two.0) one)
    listed (sum_answer n) (rows_answer y) one two = absurd (subst (λ t. IsTotal t p.pred rows (sum_answer n)) (totals ∙ two.0) one)
    listed (value_answer n) (rows_answer y) one two = absurd (subst (λ t. IsTotal t p.pred rows (value_answer n)) (totals ∙ two.0) one)
    listed (count_answer m) (count_answer n) one two = plain (count_answer m) (count_answer n) one two
    listed (count_answer m) (sum_answer n) one two = plain (count_answer m) (sum_answer n) one two
    listed (count_answer m) (value_answer n) one two = plain (count_answer m) (value_answer n) one two
    listed (sum_answer m) (count_answer n) one two = plain (sum_answer m) (count_answer n) one two
    listed (sum_answer m) (sum_answer n) one two = plain (sum_answer m) (sum_answer n) one two
    listed (sum_answer m) (value_answer n) one two = plain (sum_answer m) (value_answer n) one two
    listed (value_answer m) (count_answer n) one two = plain (value_answer m) (count_answer n) one two
    listed (value_answer m) (sum_answer n) one two = plain (value_answer m) (sum_answer n) one two
    listed (value_answer m) (value_answer n) one two = plain (value_answer m) (value_answer n) one two

  module _ (named : AreNamed schema.columns) where
    one_query : (fields : List Field) (a b : List ℕ) (p q : Query) → IsQuery schema fields p → IsQuery schema fields q → IsQuestionLine whole_texts schema rows (question.Total p) a
        → IsQuestionLine whole_texts schema rows (question.Total q) b → a ≢ no_memory_line → b ≢ no_memory_line → a ≡ b
    one_query fields a b p q asks_p asks_q of_p of_q found_a found_b =
        let x = total_line schema rows p a of_p in
        let y = total_line schema rows q b of_q in
        let first = shown p x.0 (query_is_there schema fields p asks_p) x.1 (λ line. found_a (x.2 ∙ line)) in
        let second = shown q y.0 (query_is_there schema fields q asks_q) y.1 (λ line. found_b (y.2 ∙ line)) in
        let alike = same_query schema named fields p q asks_p asks_q in
        x.2 ∙ (ap ask_line first.1 ∙ (listed p q alike.0 alike.1 first.0 second.0 first.2 second.2 ∙ (sym (ap ask_line second.1) ∙ sym y.2)))

    one_line : (fields : List Field) (a b : List ℕ) → IsAskLine Script schema rows fields a → IsAskLine Script schema rows fields b → a ≢ no_memory_line → b ≢ no_memory_line → a ≡ b
    one_line fields a b (inl x) (inl y) found_a found_b = x.line_is ∙ sym y.line_is
    one_line fields a b (inl x) (inr y) found_a found_b = absurd (x.none y.asked y.is)
    one_line fields a b (inr x) (inl y) found_a found_b = absurd (y.none x.asked x.is)
    one_line fields a b (inr x) (inr y) found_a found_b =
        let p = its_query schema fields x.asked x.is in
        let q = its_query schema fields y.asked y.is in
        one_query fields a b p.0 q.0 p.1 q.1 (subst (λ (asked : Question). IsQuestionLine whole_texts schema rows asked a) p.2 x.answered)
        (subst (λ (asked : Question). IsQuestionLine whole_texts schema rows asked b) q.2 y.answered) found_a found_b

    each_line : (records : List (List Field)) (a b : List (List ℕ)) → AllZip (IsAskLine Script schema rows) records a → AllZip (IsAskLine Script schema rows) records b
        → All IsFound a → All IsFound b → a ≡ b
    each_line [] [] [] one two found_a found_b = refl
    each_line [] (x ∷ a) b one two found_a found_b = absurd one
    each_line [] [] (y ∷ b) one two found_a found_b = absurd two
    each_line (fields ∷ records) [] b one two found_a found_b = absurd one
    each_line (fields ∷ records) (x ∷ a) [] one two found_a found_b = absurd two
    each_line (fields ∷ records) (x ∷ a) (y ∷ b) one two found_a found_b =
        ap₂ (λ line lines. line ∷ lines) (one_line fields x y one.0 two.0 (All-head IsFound x a found_a) (All-head IsFound y b found_b))
        (each_line records a b one.1 two.1 (All-tail IsFound x a found_a) (All-tail IsFound y b found_b))

    all_lines : (counts : List FedCounts) (records : List (List Field)) (a b : List (List ℕ)) → AreLines schema rows counts records a → AreLines schema rows counts records b
        → NoneIsNoMemory a → NoneIsNoMemory b → a ≡ b
    all_lines counts records a b one two found_a found_b =
        let feds = fed_lines 0 counts in
        let answers : one.answers ≡ two.answers =
        each_line records one.answers two.answers one.each two.each
        (last_all feds one.answers (subst (λ lines. All IsFound lines) one.lines_are found_a))
        (last_all feds two.answers (subst (λ lines. All IsFound lines) two.lines_are found_b)) in
        one.lines_are ∙ (ap (λ xs. feds ++ xs) answers ∙ sym two.lines_are)

-- ---- the whole run

pub one_run : OneReading → (declared : List ℕ) (texts : List (List ℕ)) (records : List (List Field)) (a b : List (List ℕ)) → IsRun declared texts records a
    → IsRun declared texts records b → NoneIsNoMemory a → NoneIsNoMemory b → a ≡ b
one_run reading declared texts records a b one two found_a found_b =
    let table = one_table reading declared (record { schema = one.schema; limit = one.limit }) (record { schema = two.schema; limit = two.limit }) one.schema_is.declares two.schema_is.declares in
    let schema : one.schema ≡ two.schema = ap (λ (d : DeclaredTable). d.schema) table in
    let files : one.files ≡ two.files =
    one_files reading one.schema texts one.files two.files one.files_are (subst (λ d. AllZip (IsRowFile (plain_format d)) texts two.files) (sym schema) two.files_are) in
    let lines : AreLines one.schema (file_by_file 0 (map file_rows one.files)) (map file_counts one.files) records b =
    subst (λ fs. AreLines one.schema (file_by_file 0 (map file_rows fs)) (map file_counts fs) records b) (sym files)
    (subst (λ d. AreLines d (file_by_file 0 (map file_rows two.files)) (map file_counts two.files) records b) (sym schema) two.lines_are) in
    all_lines one.schema (file_by_file 0 (map file_rows one.files)) (names_of declared one.schema one.limit one.schema_is) (map file_counts one.files) records a b one.lines_are lines
    found_a found_b
