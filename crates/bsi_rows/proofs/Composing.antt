-- One event after a run is one event more of the run, and what one event changes.
use Rattle.std.proofs.Common.{◌≡◌, ℕ, ◌+◌, ◌<◌, Bool, List, [], ◌∷◌, ◌++◌, Ok, Err, length, drop, map, ap, ap₂, sym, ◌∙◌, refl, arith}
use Rattle.std.specs.Prelude.{slice_get, ◌||◌}
use Rattle.std.specs.List.{range_with_len}
use Rattle.std.specs.Option.{option_map, option_to_list}
use Rattle.std.proofs.Math.Seq.{drop-append_seam}
use Rattle.std.proofs.lemmas.List.{length-take-le}
use Rattle.std.proofs.lemmas.List.FromFn.{fill_by_all, length-map-range_with_len, get_or-map-range_with_len}
use Rattle.bsi_rows.specs.Rows.{Entries}
use Rattle.bsi_rows.specs.declared.event.Event.{Event}
use Rattle.bsi_rows.specs.declared.event.Event.TheVariants.{Submit, Load, Close, Ask}
use Rattle.bsi_rows.specs.declared.event.Reply.{Reply}
use Rattle.bsi_rows.specs.declared.event.Reply.TheVariants.{Submitted, Loaded, Closed, Answered}
use Rattle.bsi_rows.specs.Shown.{Shown, Waiting, feeder_at, no_feeder, IsLawful}
use Rattle.bsi_rows.specs.Runs.{Done, rows_from, accepted, accepted_by, loads, loaded_by, indexed, loaded_row, waiting, closed, closed_by, feeder_after, AreLawful, shown_after}
use Rattle.bsi_rows.proofs.Balance.{balanced, conserved, loads_waiting, feeder_at-after, count_after}

-- ---- what a feeder has, by its parts

abbrev pub feeder : List Entries → Bool → ℕ → Waiting
feeder rows is_closed capacity = record { rows = rows; closed = is_closed; capacity = capacity }

pub same_feeder : (v w : Waiting) → v.rows ≡ w.rows → v.closed ≡ w.closed → v.capacity ≡ w.capacity → v ≡ w
same_feeder v w rows is_closed capacity =
    ap (λ r. feeder r v.closed v.capacity) rows ∙ ap (λ b. feeder w.rows b v.capacity) is_closed ∙ ap (λ n. feeder w.rows w.closed n) capacity

-- ---- before the first event

waiting_start : (s : Shown) (f : ℕ) → waiting s f [] ≡ (feeder_at s f).rows
unfolding accepted loads
waiting_start s f = drop-append_seam (rows_from f s.index.rows) (feeder_at s f).rows

pub shown_start : (s : Shown) → shown_after s [] ≡ s
unfolding shown_after indexed closed
shown_start s =
    ap (λ feeders. record { index = s.index; feeders = feeders })
    (sym (fill_by_all (feeder_after s []) s.feeders (length s.feeders) no_feeder refl
    (λ f there. sym (same_feeder (feeder_after s [] f) (feeder_at s f) (waiting_start s f) refl refl))))

-- ---- one event after a run

module _ (s : Shown) (past : List Done) (lawful : AreLawful s past) where
  then_accepted : (f : ℕ) → f < length s.feeders → accepted (shown_after s past) f [] ≡ accepted s f past
  unfolding accepted shown_after
  then_accepted f there =
      ap (λ w. rows_from f (indexed s past) ++ w.rows) (feeder_at-after s past f there) ∙ conserved s past lawful f

  then_loads : (f : ℕ) → loads (shown_after s past) f [] ≡ loads s f past
  unfolding loads shown_after
  then_loads f =
      let is = balanced s f past lawful in
      ap length is.indexed_are ∙ length-take-le (loads s f past) (accepted s f past) is.few

  module _ (e : Event) (r : Reply) (next : IsLawful (shown_after s past) e r) where
    then_waiting : (f : ℕ) → f < length s.feeders → waiting (shown_after s past) f ((e, r) ∷ []) ≡ waiting s f ((e, r) ∷ past)
    unfolding accepted loads
    then_waiting f there = ap₂ (λ n rows. drop (n + loaded_by f e r) (rows ++ accepted_by f e r)) (then_loads f) (then_accepted f there)

    then_closed : (f : ℕ) → f < length s.feeders → closed (shown_after s past) f ((e, r) ∷ []) ≡ closed s f ((e, r) ∷ past)
    unfolding closed
    then_closed f there = ap (λ w. w.closed || closed_by f e r) (feeder_at-after s past f there)

    then_feeder : (f : ℕ) → f < length s.feeders → feeder_after (shown_after s past) ((e, r) ∷ []) f ≡ feeder_after s ((e, r) ∷ past) f
    then_feeder f there =
        same_feeder (feeder_after (shown_after s past) ((e, r) ∷ []) f) (feeder_after s ((e, r) ∷ past) f)
        (then_waiting f there) (then_closed f there) (ap (λ w. w.capacity) (feeder_at-after s past f there))

  then_row : (e : Event) (r : Reply) → IsLawful (shown_after s past) e r → loaded_row (shown_after s past) [] e r ≡ loaded_row s past e r
  then_row (Submit g row) r next = refl
  then_row (Load g) (Submitted reply) next = refl
  then_row (Load g) (Loaded (Ok p)) next =
      let is = loads_waiting (shown_after s past) g p next in
      let there : g < length s.feeders = omega (arith, is.there, count_after s past) in
      ap₂ (λ rows n. option_to_list (option_map (λ row. (g, row)) (slice_get rows n))) (then_accepted g there) (then_loads g)
  then_row (Load g) (Loaded (Err e)) next = refl
  then_row (Load g) (Closed reply) next = refl
  then_row (Load g) (Answered reply) next = refl
  then_row (Close g) r next = refl
  then_row (Ask query) r next = refl

  pub shown_step : (e : Event) (r : Reply) → IsLawful (shown_after s past) e r → shown_after (shown_after s past) ((e, r) ∷ []) ≡ shown_after s ((e, r) ∷ past)
  unfolding shown_after indexed
  shown_step e r next =
      let after = feeder_after (shown_after s past) ((e, r) ∷ []) in
      ap₂ (λ row feeders. record { index = record s.index { rows = indexed s past ++ row }; feeders = feeders })
      (then_row e r next)
      (ap (λ n. map after (range_with_len 0 n)) (count_after s past)
      ∙ fill_by_all (feeder_after s ((e, r) ∷ past)) (map after (range_with_len 0 (length s.feeders))) (length s.feeders) no_feeder
      (length-map-range_with_len after 0 (length s.feeders))
      (λ f there. get_or-map-range_with_len after 0 (length s.feeders) f f no_feeder there (omega arith) ∙ then_feeder e r next f there))
