-- A run of the step machine: its accepted, indexed and waiting rows and its closed feeders, by the events and their
-- replies alone; and that no row is lost (`IsConserved`).
use Rattle.std.specs.Prelude.{◌≡◌, ℕ, ◌+◌, Bool, true, false, ◌||◌, List, [], ◌∷◌, ◌++◌, Some, None, Ok, length, map, take, drop, filter_map, nat_eq, if◌then◌else◌, slice_get, ⊤}
use Rattle.std.specs.List.{range_with_len}
use Rattle.std.specs.Option.{option_map, option_to_list}
use Rattle.bsi_rows.specs.Rows.{row_entries, row_feeder, Entries, SourcedRow}
use Rattle.bsi_rows.specs.declared.event.Event.{Event}
use Rattle.bsi_rows.specs.declared.event.Event.TheVariants.{Submit, Load, Close}
use Rattle.bsi_rows.specs.declared.event.Reply.{Reply}
use Rattle.bsi_rows.specs.declared.event.Reply.TheVariants.{Submitted, Loaded, Closed}
use Rattle.bsi_rows.specs.Shown.{Shown, Waiting, feeder_at, IsLawful}

-- an event of a run, and its reply; the past of a run is the list of its events and replies, the newest first
abbrev pub Done : Type 0
Done = Event × Reply

abbrev pub event_of : Done → Event
event_of done = done.0

abbrev pub reply_of : Done → Reply
reply_of done = done.1

-- the rows of a feeder, in their order
abbrev pub rows_from : ℕ → List SourcedRow → List Entries
rows_from f rows = filter_map (λ row. if nat_eq (row_feeder row) f then Some (row_entries row) else None) rows

-- ---- the accepted rows of a feeder, after those that the feeder had at the start

abbrev pub accepted_by : ℕ → Event → Reply → List Entries
accepted_by f (Submit g row) (Submitted (Ok done)) = if nat_eq g f then row ∷ [] else []
accepted_by f event reply = []

unfoldable pub accepted : Shown → ℕ → List Done → List Entries
accepted s f [] = rows_from f s.index.rows ++ (feeder_at s f).rows
accepted s f (done ∷ past) = accepted s f past ++ accepted_by f (event_of done) (reply_of done)

-- ---- the number of loaded rows of a feeder, with those in the index at the start

abbrev pub loaded_by : ℕ → Event → Reply → ℕ
loaded_by f (Load g) (Loaded (Ok position)) = if nat_eq g f then 1 else 0
loaded_by f event reply = 0

unfoldable pub loads : Shown → ℕ → List Done → ℕ
loads s f [] = length (rows_from f s.index.rows)
loads s f (done ∷ past) = loads s f past + loaded_by f (event_of done) (reply_of done)

-- ---- the indexed rows: a load adds the first row of its feeder that was accepted and not loaded before

abbrev pub loaded_row : Shown → List Done → Event → Reply → List SourcedRow
loaded_row s past (Load g) (Loaded (Ok position)) =
    option_to_list (option_map (λ row. (g, row)) (slice_get (accepted s g past) (loads s g past)))
loaded_row s past event reply = []

unfoldable pub indexed : Shown → List Done → List SourcedRow
indexed s [] = s.index.rows
indexed s (done ∷ past) = indexed s past ++ loaded_row s past (event_of done) (reply_of done)

-- ---- the waiting rows of a feeder: accepted and not loaded

abbrev pub waiting : Shown → ℕ → List Done → List Entries
waiting s f past = drop (loads s f past) (accepted s f past)

-- ---- whether a feeder was closed

abbrev pub closed_by : ℕ → Event → Reply → Bool
closed_by f (Close g) (Closed (Ok done)) = nat_eq g f
closed_by f event reply = false

unfoldable pub closed : Shown → ℕ → List Done → Bool
closed s f [] = (feeder_at s f).closed
closed s f (done ∷ past) = closed s f past || closed_by f (event_of done) (reply_of done)

-- ---- the state of the machine after a run

abbrev pub feeder_after : Shown → List Done → ℕ → Waiting
feeder_after s past f =
    record { rows = waiting s f past; closed = closed s f past; capacity = (feeder_at s f).capacity }

unfoldable pub shown_after : Shown → List Done → Shown
shown_after s past = record {
  index = record s.index { rows = indexed s past };
  feeders = map (feeder_after s past) (range_with_len 0 (length s.feeders));
}

-- each reply is lawful in the state of the machine after the events before
unfoldable pub AreLawful : Shown → List Done → Type 0
AreLawful s [] = ⊤
AreLawful s (done ∷ past) = AreLawful s past × IsLawful (shown_after s past) (event_of done) (reply_of done)

-- ---- the events of a run and as many replies, as a past

unfoldable pub done_after : List Done → List Event → List Reply → List Done
done_after past events [] = past
done_after past [] (reply ∷ replies) = past
done_after past (event ∷ events) (reply ∷ replies) = done_after ((event, reply) ∷ past) events replies

abbrev pub past_of : List Event → List Reply → List Done
past_of events replies = done_after [] events replies

-- the past after the first n events
abbrev pub past_at : List Event → List Reply → ℕ → List Done
past_at events replies n = past_of events (take n replies)

-- ---- nothing is lost

-- each feeder's indexed rows, followed by its waiting rows, are exactly its accepted rows
abbrev pub IsConserved : Shown → List Done → Type 0
IsConserved s past = (f : ℕ) → rows_from f (indexed s past) ++ waiting s f past ≡ accepted s f past

-- a row that is submitted to a closed feeder adds no accepted row
abbrev pub StaysClosed : Shown → List Event → List Reply → Type 0
StaysClosed s events replies =
    (f n : ℕ) (row : Entries) → slice_get events n ≡ Some (Submit f row) → closed s f (past_at events replies n) ≡ true
    → accepted s f (past_at events replies (n + 1)) ≡ accepted s f (past_at events replies n)
