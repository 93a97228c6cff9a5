-- The past of a script run that has begun.
use Rattle.std.proofs.Common.{◌≡◌, ℕ, Bool, true, false, List, [], ◌∷◌, ◌++◌, Option, Some, None, inl, inr, refl, ap, sym, ◌∙◌, subst, option_map}
use Rattle.std.specs.Prelude.{MatchOption, if◌then◌else◌}
use Rattle.bsi_rows.proofs.Composing.{shown_start, shown_step}
use Rattle.bsi_rows.specs.Runs.{AreLawful, Done, IsConserved, shown_after}
use Rattle.bsi_rows.specs.Shown.{Shown, IsLawful}
use Rattle.bsi_rows.specs.declared.event.Event.{Event}
use Rattle.bsi_rows.specs.declared.event.Reply.{Reply}
use Rattle.bsi_syntax.specs.Events.{IsEvent}
use Rattle.bsi_syntax.specs.Lines.{bad_line, done_line}
use Rattle.bsi_rows.specs.Fields.{Field}
use Rattle.bsi_input.specs.Pasts.{AreAddedBy, HasLawfulPast, IsAddedBy}
use Rattle.bsi_input.specs.Scripts.{AreTurns, Declaring, IsTurn, Running, Phase, set_up}
use Rattle.bsi_syntax.specs.Setups.{Setup, can_begin, declared_after, is_begin, machine_of, nothing_declared}
use Rattle.bsi_input.proofs.Named.{same_schema}
use Rattle.bsi_input.proofs.Turns.{no_turn, one_turn, turns_behind}

-- ---- from `begin` on

-- what records add to a past
pub record Adds (new : Shown) (past : List Done) (records : List (List Field)) (lines : List (List ℕ)) (last : Phase) : Type 0 where
  pub after : List Done
  pub added : AreAddedBy new.index.schema records lines past after
  pub lawful : AreLawful new after
  pub shows : last ≡ Running (shown_after new after)

-- an event and its reply stand after a lawful past
lawful_more : (new : Shown) (past : List Done) (e : Event) (r : Reply) → AreLawful new past → IsLawful (shown_after new past) e r → AreLawful new ((e, r) ∷ past)
unfolding AreLawful
lawful_more new past e r before next = (before, next)

-- one record from `begin` on
pub record AddsOne (new : Shown) (past : List Done) (fields : List Field) (line : List ℕ) (next : Phase) : Type 0 where
  pub middle : List Done
  pub added : IsAddedBy new.index.schema fields line past middle
  pub lawful : AreLawful new middle
  pub shows : next ≡ Running (shown_after new middle)

adds_one : (new : Shown) (past : List Done) (fields : List Field) (line : List ℕ) (next : Phase)
    → AreLawful new past → IsTurn (Running (shown_after new past)) fields line next → AddsOne new past fields line next
adds_one new past fields line next lawful (inl bad) = record {
  middle = past;
  added = inl (record {
    none = subst (λ schema. (event : Event) → IsEvent schema fields event → ⊥) (same_schema new past) bad.none;
    line_is = bad.line_is;
    same = refl;
  });
  lawful = lawful;
  shows = bad.same;
}
adds_one new past fields line next lawful (inr done) = record {
  middle = (done.event, done.reply) ∷ past;
  added = inr (record {
    event = done.event;
    reply = done.reply;
    asked = subst (λ schema. IsEvent schema fields done.event) (same_schema new past) done.asked;
    line_is = done.line_is;
    more = refl;
  });
  lawful = lawful_more new past done.event done.reply lawful done.lawful;
  shows = done.after ∙ ap Running (shown_step new past lawful done.event done.reply done.lawful);
}

pub adds : (new : Shown) (past : List Done) (phase : Phase) (records : List (List Field)) (lines : List (List ℕ)) (last : Phase)
    → phase ≡ Running (shown_after new past) → AreLawful new past → AreTurns phase records lines last → Adds new past records lines last
unfolding AreTurns AreAddedBy
adds new past phase [] [] last is lawful turns = record { after = past; added = refl; lawful = lawful; shows = turns ∙ is }
adds new past phase [] (line ∷ lines) last is lawful turns = absurd turns
adds new past phase (fields ∷ records) [] last is lawful turns = absurd turns
adds new past phase (fields ∷ records) (line ∷ lines) last is lawful turns =
    let one = adds_one new past fields line turns.0 lawful (subst (λ s. IsTurn s fields line turns.0) is turns.1) in
    let more = adds new one.middle turns.0 records lines last one.shows one.lawful turns.2 in
    record {
      after = more.after;
      added = (one.middle, one.added, more.added);
      lawful = more.lawful;
      shows = more.shows;
    }

-- ---- up to `begin`

abbrev shown_of : Phase → Shown → Shown
shown_of (Declaring setup) other = other
shown_of (Running shown) other = shown

-- how a record leads from the setup to a machine
pub record Begins (setup : Setup) (fields : List Field) (shown : Shown) : Type 0 where
  pub word : is_begin fields ≡ true
  pub can : can_begin setup ≡ true
  pub shows : shown ≡ machine_of setup

not_declared : (o : Option Setup) (shown : Shown) → option_map Declaring o ≡ Some (Running shown) → ⊥
not_declared None shown is = cc is
not_declared (Some setup) shown is = let inside : Declaring setup ≡ Running shown = cc is in cc inside

begins : (setup : Setup) (fields : List Field) (shown : Shown) → set_up setup fields ≡ Some (Running shown) → Begins setup fields shown
begins setup fields shown = by (is_begin fields) (can_begin setup) refl refl
  where
    by : (a b : Bool) → is_begin fields ≡ a → can_begin setup ≡ b
        → (if a then (if b then Some (Running (machine_of setup)) else None) else option_map Declaring (declared_after setup fields)) ≡ Some (Running shown) → Begins setup fields shown
    by true true word can is = record { word = word; can = can; shows = let inside : Running (machine_of setup) ≡ Running shown = cc is in ap (λ s. shown_of s shown) (sym inside) }
    by true false word can is = cc is
    by false b word can is = absurd (not_declared (declared_after setup fields) shown is)

-- a run from a setup to a machine, by what stands before it
pub record Passes (setup : Setup) (records : List (List Field)) (lines : List (List ℕ)) (shown : Shown) : Type 0 where
  pub at_begin : Setup
  pub declaring : List (List Field)
  pub answers : List (List ℕ)
  pub begin : List Field
  pub later : List (List Field)
  pub later_lines : List (List ℕ)
  pub records_are : records ≡ declaring ++ begin ∷ later
  pub lines_are : lines ≡ answers ++ done_line ∷ later_lines
  pub declared : AreTurns (Declaring setup) declaring answers (Declaring at_begin)
  pub word : is_begin begin ≡ true
  pub can : can_begin at_begin ≡ true
  pub run : AreTurns (Running (machine_of at_begin)) later later_lines (Running shown)

-- one more record of the setup
pass : (setup next : Setup) (fields : List Field) (line : List ℕ) (records : List (List Field)) (lines : List (List ℕ)) (shown : Shown)
    → IsTurn (Declaring setup) fields line (Declaring next) → Passes next records lines shown → Passes setup (fields ∷ records) (line ∷ lines) shown
pass setup next fields line records lines shown turn more = record {
  at_begin = more.at_begin;
  declaring = fields ∷ more.declaring;
  answers = line ∷ more.answers;
  begin = more.begin;
  later = more.later;
  later_lines = more.later_lines;
  records_are = ap (λ rest. fields ∷ rest) more.records_are;
  lines_are = ap (λ rest. line ∷ rest) more.lines_are;
  declared = turns_behind (Declaring setup) (Declaring next) (Declaring more.at_begin) (fields ∷ []) more.declaring (line ∷ []) more.answers (one_turn (Declaring setup) fields line (Declaring next) turn) more.declared;
  word = more.word;
  can = more.can;
  run = more.run;
}

pub passes : (setup : Setup) (records : List (List Field)) (lines : List (List ℕ)) (shown : Shown)
    → AreTurns (Declaring setup) records lines (Running shown) → Passes setup records lines shown
unfolding AreTurns
passes setup [] [] shown turns = cc turns
passes setup [] (line ∷ lines) shown turns = absurd turns
passes setup (fields ∷ records) [] shown turns = absurd turns
passes setup (fields ∷ records) (line ∷ lines) shown turns = by (set_up setup fields) refl turns.1 (λ next. passes next records lines shown)
  where
    by : (o : Option Phase) → set_up setup fields ≡ o
        → MatchOption o ((line ≡ bad_line) × (turns.0 ≡ Declaring setup)) (λ after. (line ≡ done_line) × (turns.0 ≡ after))
        → ((next : Setup) → AreTurns (Declaring next) records lines (Running shown) → Passes next records lines shown) → Passes setup (fields ∷ records) (line ∷ lines) shown
    by None is turn more =
        let same : IsTurn (Declaring setup) fields line (Declaring setup) = subst (λ phase. IsTurn (Declaring setup) fields line phase) turn.1 turns.1 in
        pass setup setup fields line records lines shown same (more setup (subst (λ phase. AreTurns phase records lines (Running shown)) turn.1 turns.2))
    by (Some (Declaring next)) is turn more =
        let same : IsTurn (Declaring setup) fields line (Declaring next) = subst (λ phase. IsTurn (Declaring setup) fields line phase) turn.1 turns.1 in
        pass setup next fields line records lines shown same (more next (subst (λ phase. AreTurns phase records lines (Running shown)) turn.1 turns.2))
    by (Some (Running new)) is turn more =
        let begin = begins setup fields new is in
        record {
          at_begin = setup;
          declaring = [];
          answers = [];
          begin = fields;
          later = records;
          later_lines = lines;
          records_are = refl;
          lines_are = ap (λ first. first ∷ lines) turn.0;
          declared = no_turn (Declaring setup);
          word = begin.word;
          can = begin.can;
          run = subst (λ phase. AreTurns phase records lines (Running shown)) (turn.1 ∙ ap Running begin.shows) turns.2;
        }

-- ---- the whole run

no_past : (new : Shown) → AreLawful new []
unfolding AreLawful
no_past new = tt

pub has_past : (records : List (List Field)) (lines : List (List ℕ)) (shown : Shown)
    → ((s : Shown) → (past : List Done) → AreLawful s past → IsConserved s past)
    → AreTurns (Declaring nothing_declared) records lines (Running shown) → HasLawfulPast records lines shown
has_past records lines shown conserved turns =
    let parts = passes nothing_declared records lines shown turns in
    let new : Shown = machine_of parts.at_begin in
    let added = adds new [] (Running new) parts.later parts.later_lines (Running shown) (ap Running (sym (shown_start new))) (no_past new) parts.run in
    record {
      setup = parts.at_begin;
      later = parts.later;
      later_lines = parts.later_lines;
      begun = record {
        declaring = parts.declaring;
        answers = parts.answers;
        begin = parts.begin;
        records_are = parts.records_are;
        lines_are = parts.lines_are;
        declared = parts.declared;
        is_begin = parts.word;
        can_begin = parts.can;
      };
      past = added.after;
      added = added.added;
      lawful = added.lawful;
      shows = ap (λ phase. shown_of phase shown) added.shows;
      conserved = conserved new added.after added.lawful;
    }
