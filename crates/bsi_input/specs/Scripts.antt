-- The run of a script (`IsScriptRun`): each of its records is answered by a line, before and after `begin`.
use Rattle.std.specs.Prelude.{◌≡◌, ℕ, if◌then◌else◌, List, [], ◌∷◌, Option, Some, None, option_map, MatchOption, ◌⊎◌}
use Rattle.bsi_rows.specs.declared.event.Event.{Event}
use Rattle.bsi_rows.specs.declared.event.Reply.{Reply}
use Rattle.bsi_rows.specs.Runs.{shown_after}
use Rattle.bsi_rows.specs.Shown.{Shown, IsLawful}
use Rattle.bsi_syntax.specs.Bytes.{Bytes}
use Rattle.bsi_syntax.specs.Events.{IsEvent}
use Rattle.bsi_syntax.specs.Lines.{bad_line, done_line, reply_line}
use Rattle.bsi_rows.specs.Fields.{Field}
use Rattle.bsi_syntax.specs.Setups.{Setup, can_begin, declared_after, is_begin, machine_of, nothing_declared}

-- The phase of a script: it declares its setup or, from `begin` on, runs its machine.
pub data Phase : Type 0 where
  Declaring : Setup → Phase
  Running : Shown → Phase

-- The phase after `begin`, or none if the setup lacks a column or a feeder.
abbrev pub phase_begun : Setup → Option Phase
phase_begun setup = if can_begin setup then Some (Running (machine_of setup)) else None

-- The phase after a record of the setup, or none if the record is bad.
abbrev pub set_up : Setup → List Field → Option Phase
set_up setup fields = if is_begin fields then phase_begun setup else option_map Declaring (declared_after setup fields)

-- A record that asks for no event is answered `bad`, and changes nothing.
pub record IsBad (shown : Shown) (fields : List Field) (line : Bytes) (next : Phase) : Type 0 where
  pub none : (event : Event) → IsEvent shown.index.schema fields event → ⊥
  pub line_is : line ≡ bad_line
  pub same : next ≡ Running shown

-- A record that asks for an event is answered by the line of its reply.
pub record IsDone (shown : Shown) (fields : List Field) (line : Bytes) (next : Phase) : Type 0 where
  -- The event that the record asks for.
  pub event : Event
  -- The reply to the event.
  pub reply : Reply
  -- The fields of the record ask for the event.
  pub asked : IsEvent shown.index.schema fields event
  -- The reply is lawful for what the machine shows.
  pub lawful : IsLawful shown event reply
  -- The line is that of the reply.
  pub line_is : line ≡ reply_line reply
  -- The machine shows the effect of the event.
  pub after : next ≡ Running (shown_after shown ((event, reply) ∷ []))

-- A turn: a record, the line that answers it, and the phase after it.
abbrev pub IsTurn : Phase → List Field → List ℕ → Phase → Type 0
IsTurn (Declaring setup) fields line next =
    MatchOption (set_up setup fields) ((line ≡ bad_line) × (next ≡ Declaring setup))
    (λ after. (line ≡ done_line) × (next ≡ after))
IsTurn (Running shown) fields line next = IsBad shown fields line next ⊎ IsDone shown fields line next

-- Turns, one after another: records, their lines, and the last phase.
unfoldable pub AreTurns : Phase → List (List Field) → List (List ℕ) → Phase → Type 0
AreTurns phase [] [] last = last ≡ phase
AreTurns phase (fields ∷ records) (line ∷ lines) last =
    (next : Phase) × IsTurn phase fields line next × AreTurns next records lines last
AreTurns phase records lines last = ⊥

-- A script run: records, and the lines that answer them.
abbrev pub IsScriptRun : List (List Field) → List (List ℕ) → Type 0
IsScriptRun records lines = (last : Phase) × AreTurns (Declaring nothing_declared) records lines last
