-- What one event changes of what a machine shows.
use Rattle.std.proofs.Common.{◌≡◌, ◌≢◌, ℕ, ◌+◌, ◌<◌, true, false, cond, List, [], ◌∷◌, ◌++◌, Result, Ok, Err, length, drop, get_or, set, map, inl, inr, ap, ap₂, sym, ◌∙◌, refl, arith}
use Rattle.std.specs.Prelude.{slice_get, nat_eq, ◌||◌}
use Rattle.std.specs.List.{range_with_len}
use Rattle.std.specs.Option.{option_map, option_to_list}
use Rattle.std.proofs.Math.Bool.{or-false, or-true}
use Rattle.std.proofs.Math.Seq.{drop-append-add}
use Rattle.std.proofs.lemmas.Bool.{cases_Bool}
use Rattle.std.proofs.lemmas.Bool.Decides.{nat_tests}
use Rattle.std.proofs.lemmas.List.{append_assoc, append-nil, get_or-set_other, get_or-set_same, length-set}
use Rattle.std.proofs.lemmas.List.FromFn.{fill_by_all}
use Rattle.circular_buffer.proofs.Places.{slice_get-append_right}
use Rattle.bsi_rows.specs.Rows.{Entries, SourcedRow}
use Rattle.bsi_rows.specs.Table.{Table}
use Rattle.bsi_rows.specs.declared.errors.AskError.{AskError}
use Rattle.bsi_rows.specs.declared.query.Answer.{Answer}
use Rattle.bsi_rows.specs.declared.query.Query.{Query}
use Rattle.bsi_rows.specs.declared.event.CloseRefused.{CloseRefused}
use Rattle.bsi_rows.specs.declared.event.Event.{Event}
use Rattle.bsi_rows.specs.declared.event.Event.TheVariants.{Submit, Load, Close, Ask}
use Rattle.bsi_rows.specs.declared.event.LoadRefused.{LoadRefused}
use Rattle.bsi_rows.specs.declared.event.Reply.{Reply}
use Rattle.bsi_rows.specs.declared.event.Reply.TheVariants.{Submitted, Loaded, Closed, Answered}
use Rattle.bsi_rows.specs.declared.event.SubmitRefused.{SubmitRefused}
use Rattle.bsi_rows.specs.Shown.{Shown, Waiting, feeder_at, no_feeder}
use Rattle.bsi_rows.specs.Runs.{rows_from, accepted, accepted_by, loads, loaded_by, indexed, loaded_row, waiting, closed, closed_by, feeder_after, shown_after}
use Rattle.bsi_rows.proofs.Composing.{feeder, same_feeder}

-- what waits of a feeder after one event
waiting_one : (s : Shown) (f : ℕ) (e : Event) (r : Reply) → waiting s f ((e, r) ∷ []) ≡ drop (loaded_by f e r) ((feeder_at s f).rows ++ accepted_by f e r)
unfolding accepted loads
waiting_one s f e r =
    let rows = rows_from f s.index.rows in
    ap (drop (length rows + loaded_by f e r)) (append_assoc rows (feeder_at s f).rows (accepted_by f e r))
    ∙ drop-append-add rows ((feeder_at s f).rows ++ accepted_by f e r) (loaded_by f e r)

-- an event that does nothing to a feeder
abbrev LeavesFeeder : ℕ → Event → Reply → Type 0
LeavesFeeder f e r = (accepted_by f e r ≡ []) × (loaded_by f e r ≡ 0) × (closed_by f e r ≡ false)

left : (s : Shown) (f : ℕ) (e : Event) (r : Reply) → LeavesFeeder f e r → feeder_after s ((e, r) ∷ []) f ≡ feeder_at s f
unfolding closed
left s f e r leaves =
    same_feeder (feeder_after s ((e, r) ∷ []) f) (feeder_at s f)
    (waiting_one s f e r ∙ ap₂ (λ n more. drop n ((feeder_at s f).rows ++ more)) leaves.1 leaves.0 ∙ append-nil (feeder_at s f).rows)
    (ap (λ b. (feeder_at s f).closed || b) leaves.2 ∙ or-false (feeder_at s f).closed)
    refl

module _ (s : Shown) (e : Event) (r : Reply) where
  -- an event that changes nothing
  unchanged : ((f : ℕ) → LeavesFeeder f e r) → loaded_row s [] e r ≡ [] → s ≡ shown_after s ((e, r) ∷ [])
  unfolding shown_after indexed
  unchanged leaves no_row =
      sym (ap₂ (λ rows feeders. record { index = record s.index { rows = rows }; feeders = feeders })
      (ap (λ more. s.index.rows ++ more) no_row ∙ append-nil s.index.rows)
      (sym (fill_by_all (feeder_after s ((e, r) ∷ [])) s.feeders (length s.feeders) no_feeder refl (λ f there. sym (left s f e r (leaves f))))))

  -- an event that changes one feeder
  module _ (g : ℕ) (there : g < length s.feeders) (others : (f : ℕ) → nat_eq g f ≡ false → LeavesFeeder f e r) where
    one_feeder : map (feeder_after s ((e, r) ∷ [])) (range_with_len 0 (length s.feeders)) ≡ set s.feeders g (feeder_after s ((e, r) ∷ []) g)
    one_feeder =
        let after = feeder_after s ((e, r) ∷ []) in
        sym (fill_by_all after (set s.feeders g (after g)) (length s.feeders) no_feeder (length-set s.feeders g (after g)) (λ f below.
        elim (cases_Bool (nat_eq g f)) [
          | inl same ↦
              let is : g ≡ f = grind (arith, nat_tests) in
              ap (λ h. get_or (set s.feeders g (after g)) h no_feeder) (sym is) ∙ get_or-set_same s.feeders g (after g) no_feeder there ∙ ap after is
          | inr other ↦
              let not_same : f ≢ g = λ is. grind (arith, nat_tests) in
              get_or-set_other s.feeders g f (after g) no_feeder not_same ∙ sym (left s f e r (others f other))
        ]))

    changed : (rows : List SourcedRow) (w : Waiting) → rows ≡ loaded_row s [] e r → w ≡ feeder_after s ((e, r) ∷ []) g
        → record { index = record s.index { rows = s.index.rows ++ rows }; feeders = set s.feeders g w } ≡ shown_after s ((e, r) ∷ [])
    unfolding shown_after indexed
    changed rows w row_is w_is =
        ap₂ (λ more feeders. record { index = record s.index { rows = s.index.rows ++ more }; feeders = feeders }) row_is (ap (set s.feeders g) w_is ∙ sym one_feeder)

-- ---- the four events

pub submit_refused : (s : Shown) (f : ℕ) (row : Entries) (refused : SubmitRefused) → s ≡ shown_after s ((Submit f row, Submitted (Err refused)) ∷ [])
submit_refused s f row refused = unchanged s (Submit f row) (Submitted (Err refused)) (λ g. (refl, refl, refl)) refl

pub load_refused : (s : Shown) (f : ℕ) (refused : LoadRefused) → s ≡ shown_after s ((Load f, Loaded (Err refused)) ∷ [])
load_refused s f refused = unchanged s (Load f) (Loaded (Err refused)) (λ g. (refl, refl, refl)) refl

pub close_refused : (s : Shown) (f : ℕ) (refused : CloseRefused) → s ≡ shown_after s ((Close f, Closed (Err refused)) ∷ [])
close_refused s f refused = unchanged s (Close f) (Closed (Err refused)) (λ g. (refl, refl, refl)) refl

pub answered : (s : Shown) (query : Query) (reply : Result Answer AskError) → s ≡ shown_after s ((Ask query, Answered reply) ∷ [])
answered s query reply = unchanged s (Ask query) (Answered reply) (λ g. (refl, refl, refl)) refl

same_place : (g : ℕ) → nat_eq g g ≡ true
same_place g = grind (arith, nat_tests)

abbrev pub with_feeders : Table → List Waiting → Shown
with_feeders index feeders = record { index = index; feeders = feeders }

-- the index where no row is loaded
same_index : (s : Shown) (feeders : List Waiting) → ◌≡◌ {A = Shown} (record { index = s.index; feeders = feeders }) (record { index = record s.index { rows = s.index.rows ++ [] }; feeders = feeders })
same_index s feeders = sym (ap (λ rows. with_feeders (record s.index { rows = rows }) feeders) (append-nil s.index.rows))

module _ (s : Shown) (g : ℕ) (there : g < length s.feeders) where
  pub submit_accepted : (row : Entries) → record { index = s.index; feeders = set s.feeders g (feeder ((feeder_at s g).rows ++ row ∷ []) (feeder_at s g).closed (feeder_at s g).capacity) }
      ≡ shown_after s ((Submit g row, Submitted (Ok tt)) ∷ [])
  unfolding closed
  submit_accepted row =
      let e = Submit g row in
      let r = Submitted (Ok tt) in
      let w = feeder ((feeder_at s g).rows ++ row ∷ []) (feeder_at s g).closed (feeder_at s g).capacity in
      let w_is = same_feeder w (feeder_after s ((e, r) ∷ []) g)
      (sym (waiting_one s g e r ∙ ap (λ b. (feeder_at s g).rows ++ cond b (row ∷ []) []) (same_place g)))
      (sym (or-false (feeder_at s g).closed)) refl in
      same_index s (set s.feeders g w)
      ∙ changed s e r g there (λ f other. (ap (λ b. cond b (row ∷ []) []) other, refl, refl)) [] w refl w_is

  pub close_done : record { index = s.index; feeders = set s.feeders g (feeder (feeder_at s g).rows true (feeder_at s g).capacity) } ≡ shown_after s ((Close g, Closed (Ok tt)) ∷ [])
  unfolding closed
  close_done =
      let e = Close g in
      let r = Closed (Ok tt) in
      let w = feeder (feeder_at s g).rows true (feeder_at s g).capacity in
      let w_is = same_feeder w (feeder_after s ((e, r) ∷ []) g)
      (sym (waiting_one s g e r ∙ append-nil (feeder_at s g).rows))
      (sym (ap (λ b. (feeder_at s g).closed || b) (same_place g) ∙ or-true (feeder_at s g).closed)) refl in
      same_index s (set s.feeders g w)
      ∙ changed s e r g there (λ f other. (refl, refl, other)) [] w refl w_is

  pub load_done : (p : ℕ) (row : Entries) (rest : List Entries) → (feeder_at s g).rows ≡ row ∷ rest
      → record { index = record s.index { rows = s.index.rows ++ (g, row) ∷ [] }; feeders = set s.feeders g (feeder rest (feeder_at s g).closed (feeder_at s g).capacity) }
      ≡ shown_after s ((Load g, Loaded (Ok p)) ∷ [])
  unfolding accepted loads closed
  load_done p row rest rows_are =
      let e = Load g in
      let r = Loaded (Ok p) in
      let w = feeder rest (feeder_at s g).closed (feeder_at s g).capacity in
      let first = ap (λ rows. slice_get (rows_from g s.index.rows ++ rows) (length (rows_from g s.index.rows))) rows_are ∙ slice_get-append_right (rows_from g s.index.rows) (row ∷ rest) (length (rows_from g s.index.rows)) 0 (omega arith) in
      let w_is = same_feeder w (feeder_after s ((e, r) ∷ []) g)
      (sym (waiting_one s g e r ∙ ap₂ (λ b rows. drop (cond b 1 0) rows) (same_place g) (append-nil (feeder_at s g).rows ∙ rows_are)))
      (sym (or-false (feeder_at s g).closed)) refl in
      changed s e r g there (λ f other. (refl, ap (λ b. cond b 1 0) other, refl)) ((g, row) ∷ []) w
      (sym (ap (λ o. option_to_list (option_map (λ x. (g, x)) o)) first)) w_is
