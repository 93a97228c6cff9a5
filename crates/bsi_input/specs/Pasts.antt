-- The past of a script run that has begun: the events of its machine and their replies, as records and lines say them.
use Rattle.std.specs.Prelude.{◌≡◌, ◌≢◌, ℕ, true, List, [], ◌∷◌, ◌++◌, All, ◌⊎◌}
use Rattle.bsi_rows.specs.Runs.{AreLawful, Done, IsConserved, shown_after}
use Rattle.bsi_rows.specs.Shown.{Shown}
use Rattle.bsi_rows.specs.declared.event.Event.{Event}
use Rattle.bsi_rows.specs.declared.event.Reply.{Reply}
use Rattle.bsi_schema.specs.Columns.{Declared}
use Rattle.bsi_syntax.specs.Bytes.{Bytes}
use Rattle.bsi_syntax.specs.Events.{IsEvent}
use Rattle.bsi_syntax.specs.Lines.{bad_line, done_line, no_memory_line, reply_line}
use Rattle.bsi_rows.specs.Fields.{Field}
use Rattle.bsi_input.specs.Scripts.{AreTurns, Declaring}
use Rattle.bsi_syntax.specs.Setups.{Setup, can_begin, is_begin, machine_of, nothing_declared}

-- A record that asks for no event is answered `bad`, and adds nothing to the past.
pub record AddsNothing (schema : Declared) (fields : List Field) (line : Bytes) (before after : List Done)
    : Type 0 where
  pub none : (event : Event) → IsEvent schema fields event → ⊥
  pub line_is : line ≡ bad_line
  pub same : after ≡ before

-- A record that asks for an event adds the event and its reply to the past. The line is that of the reply.
pub record AddsEvent (schema : Declared) (fields : List Field) (line : Bytes) (before after : List Done) : Type 0 where
  -- The event that the record asks for.
  pub event : Event
  -- The reply to the event.
  pub reply : Reply
  -- The fields of the record ask for the event.
  pub asked : IsEvent schema fields event
  -- The line is that of the reply.
  pub line_is : line ≡ reply_line reply
  -- The past has the event and its reply first.
  pub more : after ≡ (event, reply) ∷ before

abbrev pub IsAddedBy : Declared → List Field → List ℕ → List Done → List Done → Type 0
IsAddedBy schema fields line before after =
    AddsNothing schema fields line before after ⊎ AddsEvent schema fields line before after

-- What records and their lines add to the past, which has the newest event first.
unfoldable pub AreAddedBy : Declared → List (List Field) → List (List ℕ) → List Done → List Done → Type 0
AreAddedBy schema [] [] before after = after ≡ before
AreAddedBy schema (fields ∷ records) (line ∷ lines) before after =
    (middle : List Done) × IsAddedBy schema fields line before middle × AreAddedBy schema records lines middle after
AreAddedBy schema records lines before after = ⊥

-- A script's records and lines, split at `begin`.
pub record HasBegun (records : List (List Field)) (lines : List Bytes) (setup : Setup)
    (later : List (List Field)) (later_lines : List (List ℕ)) : Type 0 where
  -- The records before `begin`.
  pub declaring : List (List Field)
  -- Their lines.
  pub answers : List (List ℕ)
  -- The record `begin`.
  pub begin : List Field
  -- The records are these, `begin`, and the later ones.
  pub records_are : records ≡ declaring ++ begin ∷ later
  -- The lines are theirs, `ok`, and the later ones.
  pub lines_are : lines ≡ answers ++ done_line ∷ later_lines
  -- The records before `begin` declare the setup.
  pub declared : AreTurns (Declaring nothing_declared) declaring answers (Declaring setup)
  -- The record `begin` is that word alone.
  pub is_begin : is_begin begin ≡ true
  -- The setup has a column, and feeders.
  pub can_begin : can_begin setup ≡ true

-- The past of a script run that has begun, and what the machine shows after it.
pub record HasLawfulPast (records : List (List Field)) (lines : List Bytes) (shown : Shown) : Type 0 where
  -- What the records before `begin` declare.
  pub setup : Setup
  -- The records after `begin`.
  pub later : List (List Field)
  -- The lines of the records after `begin`.
  pub later_lines : List (List ℕ)
  -- The records and the lines are split at `begin`.
  pub begun : HasBegun records lines setup later later_lines
  -- The events after `begin` with their replies, the newest first.
  pub past : List Done
  -- The records after `begin` added the events of the past.
  pub added : AreAddedBy setup.table.schema later later_lines [] past
  -- Each reply was lawful when it was given.
  pub lawful : AreLawful (machine_of setup) past
  -- The machine shows what the past leads to.
  pub shows : shown ≡ shown_after (machine_of setup) past
  -- Each feeder's indexed rows, followed by its waiting rows, are exactly its accepted rows.
  pub conserved : IsConserved (machine_of setup) past

-- No line is `no memory`.
abbrev pub NoneIsNoMemory : List (List ℕ) → Type 0
NoneIsNoMemory lines = All (λ line. line ≢ no_memory_line) lines
