-- A machine of which one feeder changes is still a machine.
use Rattle.std.proofs.Common.{◌≡◌, ℕ, ◌+◌, ◌<◌, ◌≤◌, true, false, cond, ◌++◌, ◌∷◌, [], List, Option, Some, None, Bool, map, Result, Ok, Err, length, drop, get_or, set, ap, ap₂, sym, ◌∙◌, subst, refl, arith}
use Rattle.std.specs.Prelude.{All, IsTrue, IsOk, IsErr, IsErrAnd, OnOk, IfErr, MatchOption, MatchResult, ◌↔◌, ◌⊎◌, ◌==◌, slice_get, unwrap_or, position, nat_eq, nat_lt}
use Rattle.std.proofs.lemmas.Bool.Decides.{nat_tests}
use Rattle.std.proofs.lemmas.Iterator.Adapters.{position_from-zero}
use Rattle.std.proofs.lemmas.List.{length-append, length-map, length-set}
use Rattle.std.proofs.lemmas.List.Elements.{All-cons, All-drop, All-map, All-nil, All-push, All-set, All-weaker}
use Rattle.circular_buffer.specs.Buffer.{Buffer, buffer}
use Rattle.bsi_rows.specs.Rows.{Entries}
use Rattle.std.specs.List.{position_from}
use Rattle.std.specs.Option.{option_map, option_or}
use Rattle.bsi_schema.specs.Columns.{Declared, fits}
use Rattle.bsi_rows.specs.Table.{Table, no_rows, with_row}
use Rattle.bsi_rows.specs.Sizes.{capacities_refusal, is_out_of_range, new_feeder, sizes_refusal}
use Rattle.bsi_rows.specs.Refusals.{index_refusal}
use Rattle.bsi_rows.specs.declared.sizes.MakeError.TheVariants.{NoFeeders, TooManyFeeders, CapacityOutOfRange, Index}
use Rattle.bsi_rows.specs.declared.event.Event.TheVariants.{Load}
use Rattle.bsi_rows.specs.declared.event.LoadRefused.{LoadRefused}
use Rattle.bsi_rows.specs.declared.event.LoadRefused.TheVariants as load
use Rattle.bsi_rows.specs.declared.event.Reply.TheVariants.{Loaded}
use Rattle.bsi_rows.specs.declared.event.SubmitRefused.{SubmitRefused}
use Rattle.bsi_rows.specs.declared.event.SubmitRefused.TheVariants as submit
use Rattle.bsi_rows.specs.Runs.{shown_after}
use Rattle.bsi_load.proofs.Changes.{load_refused}
use Rattle.bsi_rows.specs.Shown.{Shown, Waiting, feeder_at, is_unknown, load_refusal, IsLoadReply, IsMachine}

module _ (index : Table) (feeders : List Waiting) (is : IsMachine index feeders) (g : ℕ) (there : g < length feeders) where
  pub old_fitting : (d : Waiting) → All (λ row. IsTrue (fits index.schema.columns row)) (get_or feeders g d).rows
  old_fitting d = is.fitting g d there

  pub old_small : (d : Waiting) → (get_or feeders g d).capacity ≤ 65536
  old_small d = is.small g d there

  pub machine_set : (w : Waiting) → length w.rows ≤ w.capacity → w.capacity ≤ 65536 → All (λ row. IsTrue (fits index.schema.columns row)) w.rows → IsMachine index (set feeders g w)
  machine_set w bounded small fitting =
      let long = length-set feeders g w in
      record {
        as_many = is.as_many ∙ sym long;
        some = omega (arith, is.some, long);
        few = omega (arith, is.few, long);
        bounded = All-set (λ v. length v.rows ≤ v.capacity) feeders g w bounded is.bounded;
        small = All-set (λ v. v.capacity ≤ 65536) feeders g w small is.small;
        fitting = All-set (λ v. All (λ row. IsTrue (fits index.schema.columns row)) v.rows) feeders g w fitting is.fitting;
      }

-- ---- a queue after a row was pushed, or handed back

module _ (P : Entries → Type 0) (old new : Buffer Entries) (row : Entries) where
  pub pushed_capacity : (r : Result (Unit {0}) Entries) → OnOk r (new ≡ buffer (old.items ++ row ∷ []) old.capacity) → IfErr r (λ x. (x ≡ row) × (new ≡ old)) → new.capacity ≡ old.capacity
  pushed_capacity (Ok done) ok err = ap (λ b. b.capacity) ok
  pushed_capacity (Err x) ok err = ap (λ b. b.capacity) err.1

  pub pushed_all : (r : Result (Unit {0}) Entries) → OnOk r (new ≡ buffer (old.items ++ row ∷ []) old.capacity) → IfErr r (λ x. (x ≡ row) × (new ≡ old)) → All P old.items → P row → All P new.items
  pushed_all (Ok done) ok err all one = subst (λ b. All P b.items) (sym ok) (All-push P old.items row all one)
  pushed_all (Err x) ok err all one = subst (λ b. All P b.items) (sym err.1) all

  pub pushed_within : (r : Result (Unit {0}) Entries) → (IsOk r ↔ (length old.items < old.capacity)) → OnOk r (new ≡ buffer (old.items ++ row ∷ []) old.capacity) → IfErr r (λ x. (x ≡ row) × (new ≡ old))
      → length old.items ≤ old.capacity → length new.items ≤ new.capacity
  pushed_within (Ok done) variant ok err within = let room = variant.0 refl in subst (λ b. length b.items ≤ b.capacity) (sym ok) (omega (arith, room, length-append old.items (row ∷ [])))
  pushed_within (Err x) variant ok err within = subst (λ b. length b.items ≤ b.capacity) (sym err.1) within

-- ---- a queue after its first row was popped

-- ---- the first row that waits

pub no_first : (rows : List Entries) → slice_get rows 0 ≡ None → rows ≡ []
no_first [] none = refl
no_first (row ∷ rows) none = absurd (grind (arith, none))

pub first_row : (rows : List Entries) (row : Entries) → slice_get rows 0 ≡ Some row → rows ≡ row ∷ drop 1 rows
first_row [] row is = absurd (grind (arith, is))
first_row (first ∷ rows) row is = ap (λ o. unwrap_or o row ∷ rows) is

-- no row waits
pub nothing_waits : (s : Shown) (f : ℕ) (e : LoadRefused) → f < length s.feeders → (feeder_at s f).rows ≡ [] → e ≡ cond (feeder_at s f).closed load.Ended load.Empty → IsLoadReply s f (Err e)
nothing_waits s f e there none is =
    let known : is_unknown s f ≡ false = grind (arith, nat_tests, there) in
    let empty : (length (feeder_at s f).rows == 0) ≡ true = ap (λ rows. length rows == 0) none in
    let refusal : load_refusal s f ≡ Some e = ap₂ (λ b d. cond b (Some load.UnknownFeeder) (cond d (Some (cond (feeder_at s f).closed load.Ended load.Empty)) (cond (length s.index.rows == s.index.limit) (Some load.IndexFull) None))) known empty ∙ ap Some (sym is) in
    subst (λ o. MatchOption o ((◌≡◌ {A = Result ℕ LoadRefused} (Err e) (Ok (length s.index.rows))) ⊎ (◌≡◌ {A = Result ℕ LoadRefused} (Err e) (Err load.NoMemory))) (λ refused. ◌≡◌ {A = Result ℕ LoadRefused} (Err e) (Err refused))) (sym refusal) refl

-- a load that is refused changes nothing
pub load_failed : (s : Shown) (f : ℕ) (r : Result ℕ LoadRefused) → IsErr r → s ≡ shown_after s ((Load f, Loaded r) ∷ [])
load_failed s f (Ok p) err = absurd (grind (arith, err))
load_failed s f (Err e) err = load_refused s f e

-- the index has one more row
pub machine_row : (index : Table) (feeders : List Waiting) (f : ℕ) (row : Entries) → IsMachine index feeders → IsMachine (with_row index f row) feeders
machine_row index feeders f row is = record { as_many = is.as_many; some = is.some; few = is.few; bounded = is.bounded; small = is.small; fitting = is.fitting }

-- ---- a machine of sizes that are not refused

none_of_test : {X : Type 0} (b : Bool) (x : X) (rest : Option X) → cond b (Some x) rest ≡ None → (b ≡ false) × (rest ≡ None)
none_of_test true x rest is = absurd (grind (arith, is))
none_of_test false x rest is = (refl, is)

none_of_first : {X : Type 0} (a b : Option X) → option_or a b ≡ None → a ≡ None
none_of_first None b is = refl
none_of_first (Some x) b is = absurd (grind (arith, is))

none_of_mapped : {X Y : Type 0} (f : X → Y) (o : Option X) → option_map f o ≡ None → o ≡ None
none_of_mapped f None is = refl
none_of_mapped f (Some x) is = absurd (grind (arith, is))

all_in_range : (i : ℕ) (capacities : List ℕ) → position_from is_out_of_range i capacities ≡ None → All (λ n. is_out_of_range n ≡ false) capacities
all_in_range i [] none = All-nil (λ n. is_out_of_range n ≡ false)
all_in_range i (n ∷ capacities) none =
    let tests = none_of_test (is_out_of_range n) i (position_from is_out_of_range (i + 1) capacities) none in
    All-cons (λ n. is_out_of_range n ≡ false) n capacities tests.0 (all_in_range (i + 1) capacities tests.1)

pub machine_new : (schema : Declared) (capacities : List ℕ) (limit : ℕ) → sizes_refusal schema capacities limit ≡ None → IsMachine (no_rows schema (length capacities) limit) (map new_feeder capacities)
machine_new schema capacities limit is =
    let one = none_of_test (nat_eq (length capacities) 0) NoFeeders (cond (nat_lt 64 (length capacities)) (Some TooManyFeeders) (option_or (capacities_refusal capacities) (option_map Index (index_refusal schema limit)))) is in
    let two = none_of_test (nat_lt 64 (length capacities)) TooManyFeeders (option_or (capacities_refusal capacities) (option_map Index (index_refusal schema limit))) one.1 in
    let in_range = none_of_mapped CapacityOutOfRange (position is_out_of_range capacities) (none_of_first (capacities_refusal capacities) (option_map Index (index_refusal schema limit)) two.1) in
    let many = length-map capacities new_feeder in
    record {
      as_many = sym many;
      some = let test = one.0 in grind (arith, nat_tests, many);
      few = let test = two.0 in grind (arith, nat_tests, many);
      bounded = All-map (λ w. length w.rows ≤ w.capacity) new_feeder capacities (λ k d within. omega arith);
      small = All-map (λ w. w.capacity ≤ 65536) new_feeder capacities (All-weaker (λ n. is_out_of_range n ≡ false) (λ n. n ≤ 65536) (λ n test. grind (arith, nat_tests)) capacities (all_in_range 0 capacities (sym (position_from-zero is_out_of_range capacities) ∙ in_range)));
      fitting = All-map (λ w. All (λ row. IsTrue (fits schema.columns row)) w.rows) new_feeder capacities (λ k d within. All-nil (λ row. IsTrue (fits schema.columns row)));
    }

-- what is so of a submission, by whether its row was put into the queue
pub by_push : {A : Type 0} {B : Entries → Type 0} (G : Result (Unit {0}) SubmitRefused → Type 0) (r : Result (Unit {0}) Entries) (m : Result (Unit {0}) SubmitRefused)
    → MatchResult r (λ done. m ≡ Ok done) (λ row. IsErrAnd m (λ refused. refused ≡ submit.Full row)) → OnOk r A → IfErr r B
    → (A → G (Ok tt)) → ((row : Entries) → B row → G (Err (submit.Full row))) → G m
by_push G (Ok done) m is ok err then_ok then_err = subst G (sym is) (then_ok ok)
by_push G (Err row) (Ok done) is ok err then_ok then_err = absurd is
by_push G (Err row) (Err refused) is ok err then_ok then_err = subst (λ e. G (Err e)) (sym is) (then_err row err)
