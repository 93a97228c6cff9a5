-- A script run goes on over any further records.
use Rattle.std.proofs.Common.{◌≡◌, ℕ, List, [], ◌∷◌, ◌++◌, length, Option, Some, None, Result, Ok, Err, inl, inr, refl, sym, ◌∙◌, subst}
use Rattle.std.specs.Prelude.{IfSome, MatchOption, ◌⊎◌, codes, ℤ, ⊤}
use Rattle.std.specs.Str.{bytes_eq}
use Rattle.bsi_rows.specs.declared.event.Event.{Event}
use Rattle.bsi_rows.specs.declared.event.Event.TheVariants.{Submit, Load, Close, Ask}
use Rattle.bsi_rows.specs.declared.event.LoadRefused.{LoadRefused}
use Rattle.bsi_rows.specs.declared.event.LoadRefused.TheVariants as load
use Rattle.bsi_rows.specs.declared.event.Reply.{Reply}
use Rattle.bsi_rows.specs.declared.event.Reply.TheVariants.{Submitted, Loaded, Closed, Answered}
use Rattle.bsi_rows.specs.Runs.{shown_after}
use Rattle.bsi_rows.specs.Shown.{Shown, close_reply, load_refusal, submit_reply, IsLawful}
use Rattle.bsi_schema.specs.Columns.{Declared, AreNamed}
use Rattle.bsi_rows.specs.declared.errors.AskError.TheVariants as ask
use Rattle.bsi_rows.specs.declared.query.Query.{Query}
use Rattle.bsi_syntax.specs.Events.{IsEvent, IsQuery, feeder_event, plain_event}
use Rattle.bsi_syntax.specs.Lines.{bad_line, done_line, reply_line}
use Rattle.bsi_rows.specs.Fields.{Field}
use Rattle.bsi_syntax.specs.Numbers.{feeder_of, values_in}
use Rattle.bsi_input.specs.Scripts.{Phase, Declaring, Running, set_up, IsTurn, AreTurns}
use Rattle.bsi_input.proofs.Named.{HasNames, IfSome-choice, IfSome-map, IfSome-then, turn_named}
use Rattle.bsi_syntax.proofs.Spelling.{query_is_there, query_or_not}

-- ---- runs after one another

pub turns_behind : (first middle last : Phase) (records more : List (List Field)) (lines others : List (List ℕ))
    → AreTurns first records lines middle → AreTurns middle more others last → AreTurns first (records ++ more) (lines ++ others) last
unfolding AreTurns
turns_behind first middle last [] more [] others turns others_are = subst (λ phase. AreTurns phase more others last) turns others_are
turns_behind first middle last [] more (line ∷ lines) others turns others_are = absurd turns
turns_behind first middle last (fields ∷ records) more [] others turns others_are = absurd turns
turns_behind first middle last (fields ∷ records) more (line ∷ lines) others turns others_are =
    (turns.0, turns.1, turns_behind turns.0 middle last records more lines others turns.2 others_are)

pub one_turn : (phase : Phase) (fields : List Field) (line : List ℕ) (next : Phase) → IsTurn phase fields line next → AreTurns phase (fields ∷ []) (line ∷ []) next
unfolding AreTurns
one_turn phase fields line next turn = (next, turn, refl)

pub no_turn : (phase : Phase) → AreTurns phase [] [] phase
unfolding AreTurns
no_turn phase = refl

-- ---- a record that is no query asks for one event at most, and for no query

abbrev pub IsPlain : Event → Type 0
IsPlain (Ask query) = ⊥
IsPlain event = ⊤

plain_feeder : (schema : Declared) (word : Field) (feeder : ℕ) (rest : List Field) → IfSome (feeder_event schema word feeder rest) IsPlain
plain_feeder schema word feeder [] =
    IfSome-choice IsPlain (bytes_eq word (codes "submit")) _ _ tt
    (IfSome-choice IsPlain (bytes_eq word (codes "load")) _ _ tt
    (IfSome-choice IsPlain (bytes_eq word (codes "close")) _ _ tt tt))
plain_feeder schema word feeder (value ∷ values) =
    IfSome-choice IsPlain (bytes_eq word (codes "submit")) _ _
    (IfSome-map IsPlain (Submit feeder) (values_in schema.signed (value ∷ values)) (all (values_in schema.signed (value ∷ values)))) tt
  where
    all : (o : Option (List (Option ℤ))) → IfSome o (λ row. ⊤)
    all None = tt
    all (Some row) = tt

pub plain : (schema : Declared) (fields : List Field) → IfSome (plain_event schema fields) IsPlain
plain schema [] = tt
plain schema (word ∷ []) = tt
plain schema (word ∷ feeder ∷ rest) = IfSome-then IsPlain (λ f. feeder_event schema word f rest) (feeder_of feeder) (λ f. plain_feeder schema word f rest)

-- ---- a turn of each record

-- a turn, and what the script comes to by it
pub record HasTurn (phase : Phase) (fields : List Field) : Type 0 where
  pub line : List ℕ
  pub next : Phase
  pub turn : IsTurn phase fields line next

setting_up : (before : Phase) (set : Option Phase)
    → (line : List ℕ) × (next : Phase) × MatchOption set ((line ≡ bad_line) × (next ≡ before)) (λ after. (line ≡ done_line) × (next ≡ after))
setting_up before None = (bad_line, before, (refl, refl))
setting_up before (Some after) = (done_line, after, (refl, refl))

-- the turn of a record that asks for an event
event_turn : (shown : Shown) (fields : List Field) (event : Event) (reply : Reply) → IsEvent shown.index.schema fields event → IsLawful shown event reply → HasTurn (Running shown) fields
event_turn shown fields event reply asked lawful = record {
  line = reply_line reply;
  next = Running (shown_after shown ((event, reply) ∷ []));
  turn = inr (record { event = event; reply = reply; asked = asked; lawful = lawful; line_is = refl; after = refl });
}

loaded : (n : ℕ) (refusal : Option LoadRefused)
    → (reply : Result ℕ LoadRefused) × MatchOption refusal ((reply ≡ Ok n) ⊎ (reply ≡ Err load.NoMemory)) (λ refused. reply ≡ Err refused)
loaded n None = (Ok n, inl refl)
loaded n (Some refused) = (Err refused, refl)

-- of one that asks for no event but a query
ask_turn : (shown : Shown) (fields : List Field) → AreNamed shown.index.schema.columns → plain_event shown.index.schema fields ≡ None
    → ((query : Query) × IsQuery shown.index.schema fields query) ⊎ ((query : Query) → IsQuery shown.index.schema fields query → ⊥) → HasTurn (Running shown) fields
ask_turn shown fields named none (inl query) =
    event_turn shown fields (Ask query.0) (Answered (Err ask.NoMemory)) query.1 (query_is_there shown.index.schema fields query.0 query.1)
ask_turn shown fields named none (inr no_query) = record {
  line = bad_line;
  next = Running shown;
  turn = inl (record { none = no_event; line_is = refl; same = refl });
}
  where
    no_event : (event : Event) → IsEvent shown.index.schema fields event → ⊥
    no_event (Ask query) asked = no_query query asked
    no_event (Submit feeder row) asked = let both : None ≡ Some (Submit feeder row) = sym none ∙ asked in cc both
    no_event (Load feeder) asked = let both : None ≡ Some (Load feeder) = sym none ∙ asked in cc both
    no_event (Close feeder) asked = let both : None ≡ Some (Close feeder) = sym none ∙ asked in cc both

running_turn : (shown : Shown) (fields : List Field) → AreNamed shown.index.schema.columns → HasTurn (Running shown) fields
running_turn shown fields named = by (plain_event shown.index.schema fields) refl (plain shown.index.schema fields)
  where
    by : (o : Option Event) → plain_event shown.index.schema fields ≡ o → IfSome o IsPlain → HasTurn (Running shown) fields
    by None is only = ask_turn shown fields named is (query_or_not shown.index.schema named fields)
    by (Some (Submit feeder row)) is only = event_turn shown fields (Submit feeder row) (Submitted (submit_reply shown feeder row)) is refl
    by (Some (Load feeder)) is only = let reply = loaded (length shown.index.rows) (load_refusal shown feeder) in event_turn shown fields (Load feeder) (Loaded reply.0) is reply.1
    by (Some (Close feeder)) is only = event_turn shown fields (Close feeder) (Closed (close_reply shown feeder)) is refl
    by (Some (Ask query)) is only = absurd only

pub has_turn : (phase : Phase) (fields : List Field) → HasNames phase → HasTurn phase fields
has_turn (Declaring setup) fields named =
    let turn = setting_up (Declaring setup) (set_up setup fields) in record { line = turn.0; next = turn.1; turn = turn.2 }
has_turn (Running shown) fields named = running_turn shown fields named

-- ---- turns of all records

pub extended : (phase : Phase) (records : List (List Field)) → HasNames phase → (lines : List (List ℕ)) × (last : Phase) × AreTurns phase records lines last
unfolding AreTurns
extended phase [] named = ([], phase, refl)
extended phase (fields ∷ records) named =
    let first = has_turn phase fields named in
    let more = extended first.next records (turn_named phase fields first.line first.next named first.turn) in
    (first.line ∷ more.0, more.1, (first.next, first.turn, more.2))
