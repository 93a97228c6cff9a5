-- In a lawful run the rows of a feeder that are indexed are the first of those accepted, as many as were loaded.
use Rattle.std.proofs.Common.{◌≡◌, ℕ, ◌+◌, ◌<◌, ◌≤◌, Bool, true, false, cond, List, [], ◌∷◌, ◌++◌, Option, Some, None, Result, Ok, Err, length, take, get_or, map, inl, inr, ap, ap₂, sym, ◌∙◌, refl, subst, arith}
use Rattle.std.specs.Prelude.{◌⊎◌, MatchOption, slice_get, nat_eq, ◌==◌}
use Rattle.std.specs.List.{filter_map, range_with_len}
use Rattle.std.specs.Option.{option_map, option_to_list}
use Rattle.std.proofs.Math.Seq.{take-append_seam}
use Rattle.std.proofs.lemmas.Bool.{cases_Bool}
use Rattle.std.proofs.lemmas.Bool.Decides.{nat_tests}
use Rattle.std.proofs.lemmas.List.{append-nil, take-append-drop, take-append-le, take_more, length-append, length-drop}
use Rattle.std.proofs.lemmas.List.Elements.{filter_map-append}
use Rattle.std.proofs.lemmas.List.FromFn.{length-map-range_with_len, get_or-map-range_with_len}
use Rattle.std.proofs.lemmas.Option.{slice_get-get_or}
use Rattle.bsi_rows.specs.Rows.{Entries, SourcedRow}
use Rattle.bsi_rows.specs.declared.event.Event.{Event}
use Rattle.bsi_rows.specs.declared.event.Event.TheVariants.{Submit, Load, Close, Ask}
use Rattle.bsi_rows.specs.declared.event.Reply.{Reply}
use Rattle.bsi_rows.specs.declared.event.Reply.TheVariants.{Submitted, Loaded, Closed, Answered}
use Rattle.bsi_rows.specs.Shown.{Shown, feeder_at, no_feeder, is_unknown, IsLoadReply, IsLawful}
use Rattle.bsi_rows.specs.Runs.{Done, rows_from, accepted, accepted_by, loads, loaded_by, indexed, loaded_row, waiting, feeder_after, AreLawful, shown_after, IsConserved}

-- ---- what the machine shows of a feeder after a run

pub feeders_after : (s : Shown) (past : List Done) → (shown_after s past).feeders ≡ map (feeder_after s past) (range_with_len 0 (length s.feeders))
unfolding shown_after
feeders_after s past = refl

pub count_after : (s : Shown) (past : List Done) → length (shown_after s past).feeders ≡ length s.feeders
count_after s past = ap length (feeders_after s past) ∙ length-map-range_with_len (feeder_after s past) 0 (length s.feeders)

pub feeder_at-after : (s : Shown) (past : List Done) (f : ℕ) → f < length s.feeders → feeder_at (shown_after s past) f ≡ feeder_after s past f
feeder_at-after s past f there =
    ap (λ feeders. get_or feeders f no_feeder) (feeders_after s past)
    ∙ get_or-map-range_with_len (feeder_after s past) 0 (length s.feeders) f f no_feeder there (omega arith)

-- ---- a row that is loaded was waiting

not_both : {E : Type 0} (reply : Result ℕ E) (p : ℕ) (e : E) → reply ≡ Ok p → reply ≡ Err e → ⊥
not_both (Ok n) p e ok err = grind (arith, err)
not_both (Err e') p e ok err = grind (arith, ok)

abbrev position_of_reply : {E : Type 0} → Result ℕ E → ℕ
position_of_reply (Ok p) = p
position_of_reply (Err e) = 0

by_tests : {E : Type 0} (u w i : Bool) (x y z : E) (n p : ℕ) (no_memory : E) (reply : Result ℕ E) → reply ≡ Ok p
    → MatchOption (cond u (Some x) (cond w (Some y) (cond i (Some z) None))) ((reply ≡ Ok n) ⊎ (reply ≡ Err no_memory)) (λ refused. reply ≡ Err refused)
    → (u ≡ false) × (w ≡ false) × (i ≡ false) × (p ≡ n)
by_tests true w i x y z n p no_memory reply ok is = absurd (not_both reply p x ok is)
by_tests false true i x y z n p no_memory reply ok is = absurd (not_both reply p y ok is)
by_tests false false true x y z n p no_memory reply ok is = absurd (not_both reply p z ok is)
by_tests false false false x y z n p no_memory reply ok (inl is) = (refl, refl, refl, ap (λ r. position_of_reply r) (sym ok ∙ is))
by_tests false false false x y z n p no_memory reply ok (inr is) = absurd (not_both reply p no_memory ok is)

-- the feeder is there, and a row of it waits
pub record Loads (s : Shown) (g p : ℕ) : Type 0 where
  pub there : g < length s.feeders
  pub some : 0 < length (feeder_at s g).rows
  pub position : p ≡ length s.index.rows

pub loads_waiting : (s : Shown) (g p : ℕ) → IsLoadReply s g (Ok p) → Loads s g p
loads_waiting s g p reply =
    let tests = by_tests (is_unknown s g) (length (feeder_at s g).rows == 0) (length s.index.rows == s.index.limit) _ _ _ (length s.index.rows) p _ (Ok p) refl reply in
    record {
      there = let test = tests.0 in grind (arith, nat_tests);
      some = let test = tests.1 in grind (arith, nat_tests);
      position = tests.3;
    }

-- ---- the balance

pub record IsBalanced (s : Shown) (f : ℕ) (past : List Done) : Type 0 where
  pub few : loads s f past ≤ length (accepted s f past)
  pub indexed_are : rows_from f (indexed s past) ≡ take (loads s f past) (accepted s f past)

balanced_start : (s : Shown) (f : ℕ) → IsBalanced s f []
unfolding accepted loads indexed
balanced_start s f =
    let rows = rows_from f s.index.rows in
    let more = (feeder_at s f).rows in
    record {
      few = omega (arith, length-append rows more);
      indexed_are = sym (take-append_seam rows more);
    }

abbrev from_of : ℕ → SourcedRow → Option Entries
from_of f row = cond (nat_eq row.0 f) (Some row.1) None

module _ (s : Shown) (f : ℕ) (past : List Done) (before : IsBalanced s f past) (e : Event) (r : Reply) where
  -- no row of the feeder is loaded
  unaffected : loaded_by f e r ≡ 0 → rows_from f (loaded_row s past e r) ≡ [] → IsBalanced s f ((e, r) ∷ past)
  unfolding accepted loads indexed
  unaffected none no_row =
      let rows = accepted s f past in
      let more = accepted_by f e r in
      let same : loads s f past + loaded_by f e r ≡ loads s f past = omega (arith, none) in
      record {
        few = omega (arith, before.few, none, length-append rows more);
        indexed_are =
            filter_map-append (from_of f) (indexed s past) (loaded_row s past e r)
            ∙ ap₂ (λ a b. a ++ b) before.indexed_are no_row
            ∙ append-nil (take (loads s f past) rows)
            ∙ sym (take-append-le (loads s f past) rows more before.few)
            ∙ ap (λ n. take n (rows ++ more)) (sym same);
      }

  -- the first of the feeder's waiting rows is loaded
  moved : loaded_by f e r ≡ 1 → accepted_by f e r ≡ [] → loads s f past < length (accepted s f past)
      → rows_from f (loaded_row s past e r) ≡ get_or (accepted s f past) (loads s f past) [] ∷ [] → IsBalanced s f ((e, r) ∷ past)
  unfolding accepted loads indexed
  moved one no_more waits row =
      let rows = accepted s f past in
      let n = loads s f past in
      let same : n + loaded_by f e r ≡ n + 1 = omega (arith, one) in
      let all : rows ++ accepted_by f e r ≡ rows = ap (λ more. rows ++ more) no_more ∙ append-nil rows in
      record {
        few = let long = ap length all in omega (arith, same, waits, long);
        indexed_are =
            filter_map-append (from_of f) (indexed s past) (loaded_row s past e r)
            ∙ ap₂ (λ a b. a ++ b) before.indexed_are row
            ∙ sym (take_more rows n [] waits)
            ∙ ap₂ take (sym same) (sym all);
      }

-- a row that is loaded by a lawful reply was accepted, and not loaded before
loaded_waits : (s : Shown) (past : List Done) (g p : ℕ) → IsLoadReply (shown_after s past) g (Ok p) → loads s g past < length (accepted s g past)
loaded_waits s past g p reply =
    let is = loads_waiting (shown_after s past) g p reply in
    let there : g < length s.feeders = omega (arith, is.there, count_after s past) in
    let shown = ap (λ w. length w.rows) (feeder_at-after s past g there) in
    omega (arith, is.some, shown, length-drop (loads s g past) (accepted s g past))

-- the rows of a feeder among the one that is loaded
row_from : (f g : ℕ) (selection : Option Entries) (row : Entries) → selection ≡ Some row
    → rows_from f (option_to_list (option_map (λ x. (g, x)) selection)) ≡ cond (nat_eq g f) (row ∷ []) []
row_from f g selection row is =
    ap (λ o. rows_from f (option_to_list (option_map (λ x. (g, x)) o))) is
    ∙ elim (nat_eq g f) as (λ b. filter_map (λ o. o) (cond b (Some row) None ∷ []) ≡ cond b (row ∷ []) []) [ true ↦ refl | false ↦ refl ]

load_step : (s : Shown) (f : ℕ) (past : List Done) → IsBalanced s f past → (g p : ℕ) → IsLoadReply (shown_after s past) g (Ok p) → IsBalanced s f ((Load g, Loaded (Ok p)) ∷ past)
load_step s f past before g p reply =
    let waits = loaded_waits s past g p reply in
    let first = slice_get-get_or (accepted s g past) (loads s g past) [] waits in
    let row = row_from f g (slice_get (accepted s g past) (loads s g past)) (get_or (accepted s g past) (loads s g past) []) first in
    elim (cases_Bool (nat_eq g f)) [
      | inl same ↦
          let is : g ≡ f = grind (arith, nat_tests) in
          moved s f past before (Load g) (Loaded (Ok p)) (ap (λ b. cond b 1 0) same) refl
          (subst (λ h. loads s h past < length (accepted s h past)) is waits)
          (row ∙ ap (λ b. cond b (get_or (accepted s g past) (loads s g past) [] ∷ []) []) same ∙ ap (λ h. get_or (accepted s h past) (loads s h past) [] ∷ []) is)
      | inr other ↦ unaffected s f past before (Load g) (Loaded (Ok p)) (ap (λ b. cond b 1 0) other) (row ∙ ap (λ b. cond b (get_or (accepted s g past) (loads s g past) [] ∷ []) []) other)
    ]

step : (s : Shown) (f : ℕ) (past : List Done) → IsBalanced s f past → (e : Event) (r : Reply) → IsLawful (shown_after s past) e r → IsBalanced s f ((e, r) ∷ past)
step s f past before (Submit g row) (Submitted reply) lawful = unaffected s f past before (Submit g row) (Submitted reply) refl refl
step s f past before (Submit g row) (Loaded reply) lawful = absurd lawful
step s f past before (Submit g row) (Closed reply) lawful = absurd lawful
step s f past before (Submit g row) (Answered reply) lawful = absurd lawful
step s f past before (Load g) (Submitted reply) lawful = absurd lawful
step s f past before (Load g) (Loaded (Ok p)) lawful = load_step s f past before g p lawful
step s f past before (Load g) (Loaded (Err e)) lawful = unaffected s f past before (Load g) (Loaded (Err e)) refl refl
step s f past before (Load g) (Closed reply) lawful = absurd lawful
step s f past before (Load g) (Answered reply) lawful = absurd lawful
step s f past before (Close g) (Submitted reply) lawful = absurd lawful
step s f past before (Close g) (Loaded reply) lawful = absurd lawful
step s f past before (Close g) (Closed reply) lawful = unaffected s f past before (Close g) (Closed reply) refl refl
step s f past before (Close g) (Answered reply) lawful = absurd lawful
step s f past before (Ask query) (Submitted reply) lawful = absurd lawful
step s f past before (Ask query) (Loaded reply) lawful = absurd lawful
step s f past before (Ask query) (Closed reply) lawful = absurd lawful
step s f past before (Ask query) (Answered reply) lawful = unaffected s f past before (Ask query) (Answered reply) refl refl

pub balanced : (s : Shown) (f : ℕ) (past : List Done) → AreLawful s past → IsBalanced s f past
unfolding AreLawful
balanced s f [] lawful = balanced_start s f
balanced s f (done ∷ past) lawful = step s f past (balanced s f past lawful.0) done.0 done.1 lawful.1

pub conserved : (s : Shown) (past : List Done) → AreLawful s past → IsConserved s past
conserved s past lawful f =
    let is = balanced s f past lawful in
    ap (λ rows. rows ++ waiting s f past) is.indexed_are ∙ take-append-drop (loads s f past) (accepted s f past)
