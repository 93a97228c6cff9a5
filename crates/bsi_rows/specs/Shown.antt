-- What a contract sees of a step machine (`Shown`), which replies to an event are lawful (`IsLawful`), and which states
-- are valid (`IsMachine`).
use Rattle.std.specs.Prelude.{◌≡◌, ℕ, ◌≤◌, All, IsTrue, Bool, false, not, List, [], Option, Some, None, Result, Ok, Err, ◌⊎◌, MatchOption, length, nat_le, ◌==◌, if◌then◌else◌, slice_index_or}
use Rattle.bsi_rows.specs.declared.errors.AppendError.{AppendError}
use Rattle.bsi_rows.specs.declared.errors.AppendError.TheVariants as append
use Rattle.bsi_rows.specs.Answers.{IsReply}
use Rattle.bsi_schema.specs.Columns.{fits}
use Rattle.bsi_rows.specs.Rows.{Entries}
use Rattle.bsi_rows.specs.Table.{max_feeders, Table}
use Rattle.bsi_rows.specs.declared.event.CloseRefused.{CloseRefused}
use Rattle.bsi_rows.specs.declared.event.CloseRefused.TheVariants as close
use Rattle.bsi_rows.specs.declared.event.Event.{Event}
use Rattle.bsi_rows.specs.declared.event.Event.TheVariants.{Submit, Load, Close, Ask}
use Rattle.bsi_rows.specs.declared.event.LoadRefused.{LoadRefused}
use Rattle.bsi_rows.specs.declared.event.LoadRefused.TheVariants as load
use Rattle.bsi_rows.specs.declared.event.Reply.{Reply}
use Rattle.bsi_rows.specs.declared.event.Reply.TheVariants.{Submitted, Loaded, Closed, Answered}
use Rattle.bsi_rows.specs.declared.event.SubmitRefused.{SubmitRefused}
use Rattle.bsi_rows.specs.declared.event.SubmitRefused.TheVariants as submit

-- what a contract sees of a feeder: its waiting rows in order, whether the feeder is closed, and how many rows may wait
pub record Waiting : Type 0 where
  pub rows : List Entries
  pub closed : Bool
  pub capacity : ℕ

-- what a contract sees of a machine: the index, and each feeder
pub record Shown : Type 0 where
  pub index : Table
  pub feeders : List Waiting

-- the feeder that is read past the end of a list of feeders
abbrev pub no_feeder : Waiting
no_feeder = record { rows = []; closed = false; capacity = 0 }

abbrev pub feeder_at : Shown → ℕ → Waiting
feeder_at s f = slice_index_or s.feeders f no_feeder

-- there is no feeder of this number
abbrev pub is_unknown : Shown → ℕ → Bool
is_unknown s f = nat_le (length s.feeders) f

-- the reply to a submission: the first refusal that applies, with the row, or that the row is accepted
abbrev pub submit_reply : Shown → ℕ → Entries → Result (Unit {0}) SubmitRefused
submit_reply s f row =
    if is_unknown s f then Err (submit.UnknownFeeder row)
    else (if (feeder_at s f).closed then Err (submit.Closed row)
    else (if not (fits s.index.schema.columns row) then Err (submit.Misfit row)
    else (if length (feeder_at s f).rows == (feeder_at s f).capacity then Err (submit.Full row)
    else Ok tt)))

-- the refusal of a load where the index refuses its row
abbrev pub refusal_of_append : AppendError → LoadRefused
refusal_of_append append.IndexFull = load.IndexFull
refusal_of_append append.NoMemory = load.NoMemory

-- the first refusal of a load, leaving aside memory
abbrev pub load_refusal : Shown → ℕ → Option LoadRefused
load_refusal s f =
    if is_unknown s f then Some load.UnknownFeeder
    else (if length (feeder_at s f).rows == 0 then Some (if (feeder_at s f).closed then load.Ended else load.Empty)
    else (if length s.index.rows == s.index.limit then Some load.IndexFull
    else None))

-- the reply to a load: the first refusal, or the position of the row, or that memory was refused
abbrev pub IsLoadReply : Shown → ℕ → Result ℕ LoadRefused → Type 0
IsLoadReply s f reply =
    MatchOption (load_refusal s f) ((reply ≡ Ok (length s.index.rows)) ⊎ (reply ≡ Err load.NoMemory))
    (λ refused. reply ≡ Err refused)

-- the reply to a closing
abbrev pub close_reply : Shown → ℕ → Result (Unit {0}) CloseRefused
close_reply s f =
    if is_unknown s f then Err close.UnknownFeeder
    else (if (feeder_at s f).closed then Err close.AlreadyClosed
    else Ok tt)

-- the reply is lawful: the machine may give the reply to the event
abbrev pub IsLawful : Shown → Event → Reply → Type 0
IsLawful s (Submit f row) (Submitted reply) = reply ≡ submit_reply s f row
IsLawful s (Load f) (Loaded reply) = IsLoadReply s f reply
IsLawful s (Close f) (Closed reply) = reply ≡ close_reply s f
IsLawful s (Ask query) (Answered reply) = IsReply s.index.schema s.index.rows query reply
IsLawful s event reply = ⊥

-- the most waiting rows of a feeder
abbrev pub max_waiting : ℕ
max_waiting = 65536

-- a valid state of a machine
pub record IsMachine (index : Table) (feeders : List Waiting) : Type 0 where
  -- the index and the machine have as many feeders
  pub as_many : index.feeders ≡ length feeders
  -- there is at least one feeder
  pub some : 1 ≤ length feeders
  -- there are at most 64 feeders
  pub few : length feeders ≤ max_feeders
  -- no more rows of a feeder wait than its capacity
  pub bounded : All (λ w. length w.rows ≤ w.capacity) feeders
  -- each capacity is at most 65,536 rows
  pub small : All (λ w. w.capacity ≤ max_waiting) feeders
  -- the waiting rows fit the schema
  pub fitting : All (λ w. All (λ row. IsTrue (fits index.schema.columns row)) w.rows) feeders
