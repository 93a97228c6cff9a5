-- Where no memory is refused, records have one script run.
use Rattle.std.proofs.Common.{◌≡◌, ◌≢◌, ℕ, Bool, true, false, if◌then◌else◌, List, [], ◌∷◌, ◌++◌, length, filter, filter_map, Option, Some, None, Result, Ok, Err, ℤ, inl, inr, refl, ap, ap₂, sym, ◌∙◌, subst, option_map, option_and_then}
use Rattle.std.specs.Prelude.{IfSome, MatchOption, ◌⊎◌, codes}
use Rattle.std.specs.List.{range_with_len}
use Rattle.std.specs.Str.{bytes_eq}
use Rattle.std.proofs.lemmas.List.Elements.{All-head, All-nil, All-tail}
use Rattle.std.proofs.lemmas.Slice.Eq.{bytes_eq-Decides}
use Rattle.bsi_rows.specs.Runs.{Done, shown_after}
use Rattle.bsi_rows.specs.Runs as runs
use Rattle.bsi_rows.specs.Shown.{Shown, close_reply, load_refusal, submit_reply, IsLawful}
use Rattle.bsi_rows.specs.declared.event.Event.{Event}
use Rattle.bsi_rows.specs.declared.event.Event.TheVariants.{Submit, Load, Close, Ask}
use Rattle.bsi_rows.specs.declared.event.LoadRefused.{LoadRefused}
use Rattle.bsi_rows.specs.declared.event.LoadRefused.TheVariants as load
use Rattle.bsi_rows.specs.declared.event.Reply.{Reply}
use Rattle.bsi_rows.specs.declared.event.Reply.TheVariants.{Submitted, Loaded, Closed, Answered}
use Rattle.bsi_rows.specs.Answers.{IsAnswer, IsReply, IsTotal, missing_column}
use Rattle.bsi_rows.specs.Numbering.{numbered_at}
use Rattle.bsi_digits.specs.Ranks.{IsSignedRankOf}
use Rattle.bsi_schema.specs.Columns.{Declared, AreNamed}
use Rattle.bsi_rows.specs.Rows.{Entries, SourcedRow, entry_at, feeders_of, holds, row_at, selected, values}
use Rattle.bsi_rows.specs.declared.errors.AskError.{AskError}
use Rattle.bsi_rows.specs.declared.errors.AskError.TheVariants as ask
use Rattle.bsi_rows.specs.declared.query.Answer.{Answer}
use Rattle.bsi_rows.specs.declared.query.Answer.TheVariants.{Count as count_answer, Sum as sum_answer, Value as value_answer, Rows as rows_answer}
use Rattle.bsi_rows.specs.declared.query.Pred.{Pred}
use Rattle.bsi_rows.specs.declared.query.Query.{Query}
use Rattle.bsi_rows.specs.declared.query.Total.{Total}
use Rattle.bsi_rows.specs.declared.query.Total.TheVariants.{Count, Sum, Least, Greatest, Median, Rank, Rows}
use Rattle.bsi_digits.specs.WholeNumbers.{signed_sum, IsSignedGreatestOf, IsSignedLeastOf, IsSignedMedianOf}
use Rattle.bsi_syntax.specs.Events.{IsEvent, IsQuery, feeder_event, plain_event, total_of}
use Rattle.bsi_syntax.specs.Lines.{answer_line, ask_line, bad_line, done_line, no_memory_line, reply_line, rows_text}
use Rattle.bsi_rows.specs.Fields.{Field}
use Rattle.bsi_syntax.specs.Numbers.{feeder_of, values_in}
use Rattle.bsi_input.specs.Pasts.{NoneIsNoMemory}
use Rattle.bsi_syntax.specs.Predicates.{IsPlainPredicate}
use Rattle.bsi_input.specs.Scripts.{AreTurns, Declaring, IsTurn, Running, Phase, set_up}
use Rattle.bsi_syntax.specs.Setups.{nothing_declared}
use Rattle.bsi_syntax.specs.Vocabularies.{schema_vocabulary}
use Rattle.bsi_input.proofs.Named.{HasNames, turn_named}
use Rattle.bsi_syntax.proofs.EventWords.{no_close_total, no_load_total, no_submit_total}
use Rattle.bsi_syntax.proofs.Spelling.{query_is_there, same_query}
use Rattle.bsi_input.proofs.Turns.{IsPlain, plain}
use Rattle.bsi_digits.proofs.Unique.{one_greatest, one_least, one_median}
use Rattle.bsi_rows.proofs.Ranks.{one_rank}

-- ---- answers to queries of the same meaning

module _ (p q : Pred) (same : (row : Entries) → holds p row ≡ holds q row) (rows : List SourcedRow) where
  pub same_selected : selected p rows ≡ selected q rows
  same_selected i = filter (λ r. same (row_at rows r).1 i) (range_with_len 0 (length rows))

  same_values : (c : ℕ) → values c p rows ≡ values c q rows
  same_values c = ap (λ chosen. filter_map (λ r. entry_at (row_at rows r).1 c) chosen) same_selected

  same_value : (Is : List ℤ → Option ℤ → Type 0) → ((numbers : List ℤ) (x y : Option ℤ) → Is numbers x → Is numbers y → x ≡ y) → (c : ℕ) (x y : Option ℤ)
      → Is (values c p rows) x → Is (values c q rows) y → answer_line (value_answer x) ≡ answer_line (value_answer y)
  same_value Is one c x y is_x is_y = ap (λ n. answer_line (value_answer n)) (one (values c q rows) x y (subst (λ numbers. Is numbers x) (same_values c) is_x) is_y)

  pub same_total : (total : Total) (a b : Answer) → IsTotal total p rows a → IsTotal total q rows b → answer_line a ≡ answer_line b
  same_total Count a b is_a is_b = ap answer_line (is_a ∙ ap (λ chosen. count_answer (length chosen)) same_selected ∙ sym is_b)
  same_total (Sum c) a b is_a is_b = ap answer_line (is_a ∙ ap (λ numbers. sum_answer (signed_sum numbers)) (same_values c) ∙ sym is_b)
  same_total (Least c) (value_answer x) (value_answer y) is_a is_b = same_value IsSignedLeastOf one_least c x y is_a is_b
  same_total (Least c) (count_answer x) b is_a is_b = absurd is_a
  same_total (Least c) (sum_answer x) b is_a is_b = absurd is_a
  same_total (Least c) (rows_answer x) b is_a is_b = absurd is_a
  same_total (Least c) (value_answer x) (count_answer y) is_a is_b = absurd is_b
  same_total (Least c) (value_answer x) (sum_answer y) is_a is_b = absurd is_b
  same_total (Least c) (value_answer x) (rows_answer y) is_a is_b = absurd is_b
  same_total (Greatest c) (value_answer x) (value_answer y) is_a is_b = same_value IsSignedGreatestOf one_greatest c x y is_a is_b
  same_total (Greatest c) (count_answer x) b is_a is_b = absurd is_a
  same_total (Greatest c) (sum_answer x) b is_a is_b = absurd is_a
  same_total (Greatest c) (rows_answer x) b is_a is_b = absurd is_a
  same_total (Greatest c) (value_answer x) (count_answer y) is_a is_b = absurd is_b
  same_total (Greatest c) (value_answer x) (sum_answer y) is_a is_b = absurd is_b
  same_total (Greatest c) (value_answer x) (rows_answer y) is_a is_b = absurd is_b
  same_total (Median c) (value_answer x) (value_answer y) is_a is_b = same_value IsSignedMedianOf one_median c x y is_a is_b
  same_total (Median c) (count_answer x) b is_a is_b = absurd is_a
  same_total (Median c) (sum_answer x) b is_a is_b = absurd is_a
  same_total (Median c) (rows_answer x) b is_a is_b = absurd is_a
  same_total (Median c) (value_answer x) (count_answer y) is_a is_b = absurd is_b
  same_total (Median c) (value_answer x) (sum_answer y) is_a is_b = absurd is_b
  same_total (Median c) (value_answer x) (rows_answer y) is_a is_b = absurd is_b
  same_total (Rank c rank) (value_answer x) (value_answer y) is_a is_b = same_value (IsSignedRankOf rank) (one_rank rank) c x y is_a is_b
  same_total (Rank c rank) (count_answer x) b is_a is_b = absurd is_a
  same_total (Rank c rank) (sum_answer x) b is_a is_b = absurd is_a
  same_total (Rank c rank) (rows_answer x) b is_a is_b = absurd is_a
  same_total (Rank c rank) (value_answer x) (count_answer y) is_a is_b = absurd is_b
  same_total (Rank c rank) (value_answer x) (sum_answer y) is_a is_b = absurd is_b
  same_total (Rank c rank) (value_answer x) (rows_answer y) is_a is_b = absurd is_b
  same_total Rows (rows_answer x) (rows_answer y) is_a is_b =
      ap (λ items. codes "rows" ++ rows_text items ++ codes "\n") (is_a ∙ ap (numbered_at (feeders_of rows)) same_selected ∙ sym is_b)
  same_total Rows (count_answer x) b is_a is_b = absurd is_a
  same_total Rows (sum_answer x) b is_a is_b = absurd is_a
  same_total Rows (value_answer x) b is_a is_b = absurd is_a
  same_total Rows (rows_answer x) (count_answer y) is_a is_b = absurd is_b
  same_total Rows (rows_answer x) (sum_answer y) is_a is_b = absurd is_b
  same_total Rows (rows_answer x) (value_answer y) is_a is_b = absurd is_b

-- ---- replies to queries

none_is_some : {P : Type 0} (c : ℕ) → None ≡ Some c → P
none_is_some c is = cc is

-- the answer, where memory was found and the columns are there
answered : (s : Shown) (query : Query) (r : Result Answer AskError) → missing_column (length s.index.schema.columns) query ≡ None → IsReply s.index.schema s.index.rows query r → ask_line r ≢ no_memory_line
    → (answer : Answer) × (r ≡ Ok answer) × IsAnswer query s.index.rows answer
answered s query (Ok answer) there is found = (answer, refl, is.1)
answered s query (Err (ask.BadColumn c)) there is found = none_is_some c (sym there ∙ is)
answered s query (Err ask.NoMemory) there is found = absurd (found refl)

-- what a machine comes to by a query, whatever the query
abbrev after_ask : Shown → Query → Result Answer AskError → Phase
after_ask s query r = Running (shown_after s ((Ask query, Answered r) ∷ []))

asked_alike : (s : Shown) (a b : Query) (x y : Result Answer AskError) → after_ask s a x ≡ after_ask s b y
unfolding shown_after runs.indexed runs.accepted runs.loads runs.closed
asked_alike s a b x y = refl

-- ---- replies to other events

usual_load : ℕ → Option LoadRefused → Result ℕ LoadRefused
usual_load n None = Ok n
usual_load n (Some refused) = Err refused

usual : Shown → Event → Reply
usual s (Submit f row) = Submitted (submit_reply s f row)
usual s (Load f) = Loaded (usual_load (length s.index.rows) (load_refusal s f))
usual s (Close f) = Closed (close_reply s f)
usual s (Ask query) = Closed (close_reply s 0)

loads_so : (n : ℕ) (refusal : Option LoadRefused) (r : Result ℕ LoadRefused)
    → MatchOption refusal ((r ≡ Ok n) ⊎ (r ≡ Err load.NoMemory)) (λ refused. r ≡ Err refused) → reply_line (Loaded r) ≢ no_memory_line → r ≡ usual_load n refusal
unfolding usual_load
loads_so n None r (inl is) found = is
loads_so n None r (inr is) found = absurd (found (ap (λ x. reply_line (Loaded x)) is))
loads_so n (Some refused) r is found = is

usual_is : (s : Shown) (e : Event) (r : Reply) → IsPlain e → IsLawful s e r → reply_line r ≢ no_memory_line → r ≡ usual s e
unfolding usual
usual_is s (Submit f row) (Submitted r) only lawful found = ap Submitted lawful
usual_is s (Submit f row) (Loaded r) only lawful found = absurd lawful
usual_is s (Submit f row) (Closed r) only lawful found = absurd lawful
usual_is s (Submit f row) (Answered r) only lawful found = absurd lawful
usual_is s (Load f) (Loaded r) only lawful found = ap Loaded (loads_so (length s.index.rows) (load_refusal s f) r lawful found)
usual_is s (Load f) (Submitted r) only lawful found = absurd lawful
usual_is s (Load f) (Closed r) only lawful found = absurd lawful
usual_is s (Load f) (Answered r) only lawful found = absurd lawful
usual_is s (Close f) (Closed r) only lawful found = ap Closed lawful
usual_is s (Close f) (Submitted r) only lawful found = absurd lawful
usual_is s (Close f) (Loaded r) only lawful found = absurd lawful
usual_is s (Close f) (Answered r) only lawful found = absurd lawful
usual_is s (Ask query) r only lawful found = absurd only

-- ---- a record asks for a query or for another event, and not for both

is_text : (word text : Field) → bytes_eq word text ≡ true → word ≡ text
is_text word text is = (bytes_eq-Decides word text).0 is

-- the words of other events are no totals
no_total : (schema : Declared) (word text : Field) (rest : List Field) → bytes_eq word text ≡ true → total_of (schema_vocabulary schema) (text ∷ rest) ≡ None → total_of (schema_vocabulary schema) (word ∷ rest) ≡ None
no_total schema word text rest is none = ap (λ w. total_of (schema_vocabulary schema) (w ∷ rest)) (is_text word text is) ∙ none

none_is_event : {P : Type 0} (e : Event) → None ≡ Some e → P
none_is_event e is = cc is

no_query : (schema : Declared) (word : Field) (feeder : ℕ) (all rest : List Field) (e : Event) → feeder_event schema word feeder rest ≡ Some e → total_of (schema_vocabulary schema) (word ∷ all) ≡ None
no_query schema word feeder all [] e = by (bytes_eq word (codes "submit")) (bytes_eq word (codes "load")) (bytes_eq word (codes "close")) refl refl refl
  where
    by : (a b c : Bool) → bytes_eq word (codes "submit") ≡ a → bytes_eq word (codes "load") ≡ b → bytes_eq word (codes "close") ≡ c
        → (if a then Some (Submit feeder []) else (if b then Some (Load feeder) else (if c then Some (Close feeder) else None))) ≡ Some e → total_of (schema_vocabulary schema) (word ∷ all) ≡ None
    by true b c submit load close is = no_total schema word (codes "submit") all submit (no_submit_total (schema_vocabulary schema) all)
    by false true c submit load close is = no_total schema word (codes "load") all load (no_load_total (schema_vocabulary schema) all)
    by false false true submit load close is = no_total schema word (codes "close") all close (no_close_total (schema_vocabulary schema) all)
    by false false false submit load close is = none_is_event e is
no_query schema word feeder all (value ∷ values) e = by (bytes_eq word (codes "submit")) refl
  where
    by : (a : Bool) → bytes_eq word (codes "submit") ≡ a
        → (if a then option_map (Submit feeder) (values_in schema.signed (value ∷ values)) else None) ≡ Some e → total_of (schema_vocabulary schema) (word ∷ all) ≡ None
    by true submit is = no_total schema word (codes "submit") all submit (no_submit_total (schema_vocabulary schema) all)
    by false submit is = none_is_event e is

no_query_of : (schema : Declared) (word : Field) (all rest : List Field) (e : Event) (feeder : Option ℕ)
    → option_and_then (λ f. feeder_event schema word f rest) feeder ≡ Some e → total_of (schema_vocabulary schema) (word ∷ all) ≡ None
no_query_of schema word all rest e None is = none_is_event e is
no_query_of schema word all rest e (Some f) is = no_query schema word f all rest e is

plain_no_query : (schema : Declared) (fields : List Field) (e : Event) → plain_event schema fields ≡ Some e → total_of (schema_vocabulary schema) fields ≡ None
plain_no_query schema [] e is = none_is_event e is
plain_no_query schema (word ∷ []) e is = none_is_event e is
plain_no_query schema (word ∷ feeder ∷ rest) e is = no_query_of schema word (feeder ∷ rest) rest e (feeder_of feeder) is

not_both : (schema : Declared) (fields : List Field) (e : Event) (query : Query) → plain_event schema fields ≡ Some e → IsQuery schema fields query → ⊥
not_both schema fields e query is asked =
    subst (λ found. MatchOption found ⊥ (λ f. (query.total ≡ f.0) × IsPlainPredicate (schema_vocabulary schema) f.1 query.pred)) (plain_no_query schema fields e is) asked

-- ---- a turn

-- what a turn of a machine gave
abbrev Same : List ℕ → List ℕ → Phase → Phase → Type 0
Same a b next_a next_b = (a ≡ b) × (next_a ≡ next_b)

-- an event is a query or another one
data Asks (schema : Declared) (fields : List Field) (e : Event) : Type 0 where
  query : (q : Query) → e ≡ Ask q → IsQuery schema fields q → Asks schema fields e
  other : plain_event schema fields ≡ Some e → Asks schema fields e

asks : (schema : Declared) (fields : List Field) (e : Event) → IsEvent schema fields e → Asks schema fields e
asks schema fields (Ask q) asked = query q refl asked
asks schema fields (Submit f row) asked = other asked
asks schema fields (Load f) asked = other asked
asks schema fields (Close f) asked = other asked

plain_one : (schema : Declared) (fields : List Field) (e : Event) → plain_event schema fields ≡ Some e → IsPlain e
plain_one schema fields e is = subst (λ o. IfSome o IsPlain) is (plain schema fields)

same_event : (a b : Event) → Some a ≡ Some b → a ≡ b
same_event a b is = cc is

query_reply : (s : Shown) (q : Query) (r : Reply) → IsLawful s (Ask q) r → (x : Result Answer AskError) × (r ≡ Answered x) × IsReply s.index.schema s.index.rows q x
query_reply s q (Answered x) lawful = (x, refl, lawful)
query_reply s q (Submitted x) lawful = absurd lawful
query_reply s q (Loaded x) lawful = absurd lawful
query_reply s q (Closed x) lawful = absurd lawful

module _ (s : Shown) (named : AreNamed s.index.schema.columns) (fields : List Field) where
  both_queries : (p q : Query) (a b : Reply) → IsQuery s.index.schema fields p → IsQuery s.index.schema fields q → IsLawful s (Ask p) a → IsLawful s (Ask q) b
      → reply_line a ≢ no_memory_line → reply_line b ≢ no_memory_line
      → Same (reply_line a) (reply_line b) (Running (shown_after s ((Ask p, a) ∷ []))) (Running (shown_after s ((Ask q, b) ∷ [])))
  both_queries p q a b is_p is_q lawful_a lawful_b found_a found_b =
      let x = query_reply s p a lawful_a in
      let y = query_reply s q b lawful_b in
      let first = answered s p x.0 (query_is_there s.index.schema fields p is_p) x.2 (λ line. found_a (ap reply_line x.1 ∙ line)) in
      let second = answered s q y.0 (query_is_there s.index.schema fields q is_q) y.2 (λ line. found_b (ap reply_line y.1 ∙ line)) in
      let alike = same_query s.index.schema named fields p q is_p is_q in
      let total : IsTotal q.total p.pred s.index.rows first.0 = subst (λ t. IsTotal t p.pred s.index.rows first.0) alike.0 first.2 in (
        ap reply_line (x.1 ∙ ap Answered first.1) ∙ same_total p.pred q.pred alike.1 s.index.rows q.total first.0 second.0 total second.2 ∙ sym (ap reply_line (y.1 ∙ ap Answered second.1)),
        ap (λ r. Running (shown_after s ((Ask p, r) ∷ []))) x.1 ∙ asked_alike s p q x.0 y.0 ∙ sym (ap (λ r. Running (shown_after s ((Ask q, r) ∷ []))) y.1),
      )

  both_events : (d e : Event) (a b : Reply) → Asks s.index.schema fields d → Asks s.index.schema fields e → IsLawful s d a → IsLawful s e b
      → reply_line a ≢ no_memory_line → reply_line b ≢ no_memory_line
      → Same (reply_line a) (reply_line b) (Running (shown_after s ((d, a) ∷ []))) (Running (shown_after s ((e, b) ∷ [])))
  both_events d e a b (query p is_d asked_p) (query q is_e asked_q) lawful_a lawful_b found_a found_b =
      let same = both_queries p q a b asked_p asked_q (subst (λ x. IsLawful s x a) is_d lawful_a) (subst (λ x. IsLawful s x b) is_e lawful_b) found_a found_b in (
        same.0,
        ap (λ x. Running (shown_after s ((x, a) ∷ []))) is_d ∙ same.1 ∙ sym (ap (λ x. Running (shown_after s ((x, b) ∷ []))) is_e),
      )
  both_events d e a b (query p is_d asked_p) (other is_e) lawful_a lawful_b found_a found_b = absurd (not_both s.index.schema fields e p is_e asked_p)
  both_events d e a b (other is_d) (query q is_e asked_q) lawful_a lawful_b found_a found_b = absurd (not_both s.index.schema fields d q is_d asked_q)
  both_events d e a b (other is_d) (other is_e) lawful_a lawful_b found_a found_b =
      let same : d ≡ e = same_event d e (sym is_d ∙ is_e) in
      let first : a ≡ usual s d = usual_is s d a (plain_one s.index.schema fields d is_d) lawful_a found_a in
      let second : b ≡ usual s e = usual_is s e b (plain_one s.index.schema fields e is_e) lawful_b found_b in
      let replies : a ≡ b = first ∙ ap (usual s) same ∙ sym second in
      (ap reply_line replies, ap₂ (λ x r. Running (shown_after s ((x, r) ∷ []))) same replies)

  both_turns : (a b : List ℕ) (next_a next_b : Phase) → IsTurn (Running s) fields a next_a → IsTurn (Running s) fields b next_b
      → a ≢ no_memory_line → b ≢ no_memory_line → Same a b next_a next_b
  both_turns a b next_a next_b (inl x) (inl y) found_a found_b = (x.line_is ∙ sym y.line_is, x.same ∙ sym y.same)
  both_turns a b next_a next_b (inl x) (inr y) found_a found_b = absurd (x.none y.event y.asked)
  both_turns a b next_a next_b (inr x) (inl y) found_a found_b = absurd (y.none x.event x.asked)
  both_turns a b next_a next_b (inr x) (inr y) found_a found_b =
      let same = both_events x.event y.event x.reply y.reply (asks s.index.schema fields x.event x.asked) (asks s.index.schema fields y.event y.asked) x.lawful y.lawful
      (λ line. found_a (x.line_is ∙ line)) (λ line. found_b (y.line_is ∙ line)) in
      (x.line_is ∙ same.0 ∙ sym y.line_is, x.after ∙ same.1 ∙ sym y.after)

both_set : (before : Phase) (set : Option Phase) (a b : List ℕ) (next_a next_b : Phase)
    → MatchOption set ((a ≡ bad_line) × (next_a ≡ before)) (λ after. (a ≡ done_line) × (next_a ≡ after))
    → MatchOption set ((b ≡ bad_line) × (next_b ≡ before)) (λ after. (b ≡ done_line) × (next_b ≡ after)) → Same a b next_a next_b
both_set before None a b next_a next_b x y = (x.0 ∙ sym y.0, x.1 ∙ sym y.1)
both_set before (Some after) a b next_a next_b x y = (x.0 ∙ sym y.0, x.1 ∙ sym y.1)

one_turn : (phase : Phase) (fields : List Field) (a b : List ℕ) (next_a next_b : Phase) → HasNames phase → IsTurn phase fields a next_a → IsTurn phase fields b next_b
    → a ≢ no_memory_line → b ≢ no_memory_line → Same a b next_a next_b
one_turn (Declaring setup) fields a b next_a next_b named x y found_a found_b = both_set (Declaring setup) (set_up setup fields) a b next_a next_b x y
one_turn (Running s) fields a b next_a next_b named x y found_a found_b = both_turns s named fields a b next_a next_b x y found_a found_b

-- ---- a run

abbrev IsFound : List ℕ → Type 0
IsFound line = line ≢ no_memory_line

one_run : (phase : Phase) (records : List (List Field)) (a b : List (List ℕ)) (last_a last_b : Phase) → HasNames phase
    → AreTurns phase records a last_a → AreTurns phase records b last_b → NoneIsNoMemory a → NoneIsNoMemory b → a ≡ b
unfolding AreTurns
one_run phase [] [] [] last_a last_b named x y found_a found_b = refl
one_run phase [] (line ∷ a) b last_a last_b named x y found_a found_b = absurd x
one_run phase [] [] (line ∷ b) last_a last_b named x y found_a found_b = absurd y
one_run phase (fields ∷ records) [] b last_a last_b named x y found_a found_b = absurd x
one_run phase (fields ∷ records) (line ∷ a) [] last_a last_b named x y found_a found_b = absurd y
one_run phase (fields ∷ records) (one ∷ a) (two ∷ b) last_a last_b named x y found_a found_b =
    let first = one_turn phase fields one two x.0 y.0 named x.1 y.1 (All-head IsFound one a found_a) (All-head IsFound two b found_b) in
    let others = subst (λ next. AreTurns next records b last_b) (sym first.1) y.2 in
    let rest = one_run x.0 records a b last_a last_b (turn_named phase fields one x.0 named x.1) x.2 others (All-tail IsFound one a found_a) (All-tail IsFound two b found_b) in
    ap₂ (λ line lines. line ∷ lines) first.0 rest

pub determined : (records : List (List Field)) (a b : List (List ℕ)) (last_a last_b : Phase)
    → AreTurns (Declaring nothing_declared) records a last_a → AreTurns (Declaring nothing_declared) records b last_b → NoneIsNoMemory a → NoneIsNoMemory b → a ≡ b
determined records a b last_a last_b = one_run (Declaring nothing_declared) records a b last_a last_b (All-nil _)
