-- Columns before and after they observe fields, or are joined.
use Rattle.std.proofs.Common.{◌≡◌, inl, inr, ℕ, ◌+◌, ◌<◌, ◌≤◌, Bool, true, false, List, [], ◌∷◌, ◌++◌, length, map, get_or, arith, refl, sym, subst, ap, ◌∙◌, get_or-set_other, get_or-set_same, All}
use Rattle.std.proofs.Math.ListN.{length-set, set}
use Rattle.std.proofs.lemmas.Bool.{cases_eq, cases_lt}
use Rattle.std.proofs.lemmas.List.{get_or_default}
use Rattle.bsi_rows.specs.Fields.{Field}
use Rattle.bsi_inference.specs.ColumnCandidates.{is_null_field, Accepts, HasJoinedKinds, HaveSameForms, IsNewTextColumn, LooksFor}
use Rattle.bsi_inference.specs.Decimals.{AcceptsDecimal}
use Rattle.bsi_inference.specs.declared.candidate.Candidate.{Candidate}
use Rattle.bsi_inference.specs.declared.candidates.Candidates.{Candidates}
use Rattle.bsi_inference.specs.declared.decimals.Decimals.{Decimals}
use Rattle.bsi_survey.specs.Choices.{chosen_fields}
use Rattle.bsi_survey.specs.Looking.{AcceptMore, AcceptsRecord, AreGrown, AreLookedFor, AreSteps, HasJoined, HasObservedFields, IsGrown, IsLookedFor, IsStep, LooksForTexts}
use Rattle.bsi_survey.specs.Surveys.{AcceptsWhole}
use Rattle.bsi_survey.specs.declared.choice.Choice.{Choice}
use Rattle.bsi_survey.specs.declared.options.ColumnStart.{ColumnStart}
use Rattle.bsi_survey.specs.declared.options.ColumnStart.TheVariants.{Any, Rounded, Texts}

-- ---- one column

pub grown_same : (c : Candidates) → IsGrown c c
grown_same c = record { preserved = λ f accepts. accepts; looked = λ point texts looks. looks }

pub grown_then : (a b c : Candidates) → IsGrown a b → IsGrown b c → IsGrown a c
grown_then a b c one two = record {
  preserved = λ f accepts. two.preserved f (one.preserved f accepts);
  looked = λ point texts looks. two.looked point texts (one.looked point texts looks);
}

none_mapped : (cs : List Candidate) → map (λ c. c.form) cs ≡ [] → cs ≡ []
none_mapped [] is = refl
none_mapped (c ∷ cs) is = absurd (cc)

-- what is looked for stays, where texts alone stay texts alone
looked_still : (old new : Candidates) → HaveSameForms old new
    → (((f : Field) → AcceptsDecimal old.point old.decimals f) → (f : Field) → AcceptsDecimal new.point new.decimals f)
    → (point : ℕ) (start : ColumnStart) → IsLookedFor point start old → IsLookedFor point start new
looked_still old new alike decimals point Texts looks = record {
  forms = none_mapped new.forms.items (sym alike.forms ∙ ap (map (λ c. c.form)) looks.forms);
  decimals = decimals looks.decimals;
}
looked_still old new alike decimals point Any looks = record {
  decimals = sym alike.point ∙ looks.decimals;
  rounding = sym alike.rounding ∙ looks.rounding;
  forms = sym alike.forms ∙ looks.forms;
}
looked_still old new alike decimals point (Rounded places) looks = record {
  decimals = sym alike.point ∙ looks.decimals;
  rounding = sym alike.rounding ∙ looks.rounding;
  forms = sym alike.forms ∙ looks.forms;
}

-- a field was observed
module _ (words : List Field) (field : Field) (old new : Candidates) (step : IsStep words field old new) where
  decimals_seen : ((f : Field) → AcceptsDecimal old.point old.decimals f) → (f : Field) → AcceptsDecimal new.point new.decimals f
  decimals_seen all f = by (is_null_field words field) refl
    where
      by : (b : Bool) → is_null_field words field ≡ b → AcceptsDecimal new.point new.decimals f
      by true is =
          let kinds = step.null is in
          subst (λ (p : ℕ). AcceptsDecimal p new.decimals f) (sym kinds.point) (subst (λ (s : Decimals). AcceptsDecimal old.point s f) (sym kinds.decimals) (all f))
      by false is =
          let kinds = step.value is in
          subst (λ (p : ℕ). AcceptsDecimal p new.decimals f) (sym kinds.point) (kinds.decimals.preserved f (all f))

  pub observed : IsGrown old new
  observed = record { preserved = step.preserved; looked = looked_still old new step.alike decimals_seen }

-- one more field was observed
pub observed_push : (words fields : List Field) (field : Field) (old now new : Candidates) → HasObservedFields words fields old now → IsStep words field now new
    → HasObservedFields words (fields ++ field ∷ []) old new
observed_push words [] field old now new same step = (new, subst (λ (c : Candidates). IsStep words field c new) same step, refl)
observed_push words (first ∷ fields) field old now new seen step = (seen.0, seen.1, observed_push words fields field seen.0 now new seen.2 step)

-- another part was joined
pub joined : (old other new : Candidates) → HaveSameForms old new → HasJoinedKinds old other new → ((f : Field) → Accepts old f → Accepts new f) → IsGrown old new
joined old other new alike kinds preserved = record {
  preserved = preserved;
  looked = looked_still old new alike (λ all f. subst (λ (p : ℕ). AcceptsDecimal p new.decimals f) (sym kinds.point) (kinds.decimals.preserved old.point f (all f)));
}

-- ---- all columns

pub all_same : (cs : List Candidates) → AreGrown cs cs
all_same cs = record { len = refl; each = λ c d within. grown_same (get_or cs c d) }

-- each column observed its field
pub steps_grown : (words fields : List Field) (old new : List Candidates) → AreSteps words fields old new → AreGrown old new
steps_grown words fields old new steps = record {
  len = steps.len;
  each = λ c d within. observed words (get_or fields c []) (get_or old c d) (get_or new c d) (steps.each c d within);
}

pub steps_accepted : (words fields : List Field) (old new : List Candidates) → AreSteps words fields old new → AcceptsRecord new fields
steps_accepted words fields old new steps = λ c d within. (steps.each c d (omega (arith, steps.len, within))).accepts

module _ (old new : List Candidates) (grown : AreGrown old new) where
  pub accepted_still : (fields : List Field) → AcceptsRecord old fields → AcceptsRecord new fields
  accepted_still fields accepts = λ c d within.
      let low : c < length old = omega (arith, grown.len, within) in
      (grown.each c d low).preserved (get_or fields c []) (accepts c d low)

  pub all_looked : (point : ℕ) (starts : List ColumnStart) → AreLookedFor point starts old → AreLookedFor point starts new
  all_looked point texts looks = λ c d within.
      let low : c < length old = omega (arith, grown.len, within) in
      (grown.each c d low).looked point _ (looks c d low)

-- what others accept
pub accepted_more : (first second : List Candidates) → AcceptMore first second → (fields : List Field) → AcceptsRecord first fields → AcceptsRecord second fields
accepted_more first second more fields accepts = λ c d within.
    let low : c < length first = omega (arith, more.len, within) in
    more.each c d low (get_or fields c []) (accepts c d low)

pub whole_still : (choice : Choice) (old new : List Candidates) → AreGrown old new → (records : List (List Field)) → AcceptsWhole choice old records → AcceptsWhole choice new records
whole_still choice old new grown records all = λ k d within whole. accepted_still old new grown (chosen_fields choice (get_or records k d)) (all k d within whole)

-- ---- columns of which some are done

-- those before i are done, and the others not yet
pub record AreBetween {X : Type 0} (Done : ℕ → X → X → Type 0) (old new : List X) (i : ℕ) : Type 0 where
  pub len : length new ≡ length old
  pub done : (k : ℕ) (d : X) → k < i → Done k (get_or old k d) (get_or new k d)
  pub rest : (k : ℕ) (d : X) → i ≤ k → get_or new k d ≡ get_or old k d

module _ {X : Type 0} (Done : ℕ → X → X → Type 0) (old now : List X) (i : ℕ) (here next : X) where
  module _ (between : AreBetween Done old now i) (within : i < length now) (is : here ≡ get_or now i here) (step : Done i here next) where
    read_here : (d : X) → get_or old i d ≡ here
    read_here d = sym (between.rest i d (omega arith)) ∙ get_or_default now i d here within ∙ sym is

    at_here : (d : X) → Done i (get_or old i d) (get_or (set now i next) i d)
    at_here d =
        subst (λ (c : X). Done i c (get_or (set now i next) i d)) (sym (read_here d))
        (subst (λ (c : X). Done i here c) (sym (get_or-set_same now i next d within)) step)

    done_more : (k : ℕ) (d : X) → k < i + 1 → Done k (get_or old k d) (get_or (set now i next) k d)
    done_more k d low = elim (cases_eq k i) [
      | inl same ↦ subst (λ (j : ℕ). Done j (get_or old j d) (get_or (set now i next) j d)) (sym same) (at_here d)
      | inr other ↦ subst (λ (c : X). Done k (get_or old k d) c) (sym (get_or-set_other now i k next d other)) (between.done k d (omega arith))
    ]

    pub between_more : AreBetween Done old (set now i next) (i + 1)
    between_more = record {
      len = length-set now i next ∙ between.len;
      done = done_more;
      rest = λ k d high. get_or-set_other now i k next d (λ same. omega arith) ∙ between.rest k d (omega arith);
    }

-- the same, of what was read at i
pub between_at : {X : Type 0} (Done : ℕ → X → X → Type 0) (old now : List X) (i : ℕ) (x next : X) → AreBetween Done old now i → i < length now
    → Done i (get_or now i x) next → AreBetween Done old (set now i next) (i + 1)
between_at Done old now i x next between within step =
    between_more Done old now i (get_or now i x) next between within (get_or_default now i x (get_or now i x) within) step

-- those from i on are done, and the others not yet
pub record AreBehind {X : Type 0} (Done : ℕ → X → X → Type 0) (old new : List X) (i : ℕ) : Type 0 where
  pub len : length new ≡ length old
  pub done : (k : ℕ) (d : X) → i ≤ k → k < length old → Done k (get_or old k d) (get_or new k d)
  pub rest : (k : ℕ) (d : X) → k < i → get_or new k d ≡ get_or old k d

module _ {X : Type 0} (Done : ℕ → X → X → Type 0) (old now : List X) (i : ℕ) (here next : X) where
  module _ (behind : AreBehind Done old now (i + 1)) (within : i < length now) (is : here ≡ get_or now i here) (step : Done i here next) where
    here_was : (d : X) → get_or old i d ≡ here
    here_was d = sym (behind.rest i d (omega arith)) ∙ get_or_default now i d here within ∙ sym is

    set_here : (d : X) → Done i (get_or old i d) (get_or (set now i next) i d)
    set_here d =
        subst (λ (c : X). Done i c (get_or (set now i next) i d)) (sym (here_was d))
        (subst (λ (c : X). Done i here c) (sym (get_or-set_same now i next d within)) step)

    behind_done : (k : ℕ) (d : X) → i ≤ k → k < length old → Done k (get_or old k d) (get_or (set now i next) k d)
    behind_done k d high low = elim (cases_eq k i) [
      | inl same ↦ subst (λ (j : ℕ). Done j (get_or old j d) (get_or (set now i next) j d)) (sym same) (set_here d)
      | inr other ↦ subst (λ (c : X). Done k (get_or old k d) c) (sym (get_or-set_other now i k next d other)) (behind.done k d (omega arith) low)
    ]

    pub behind_more : AreBehind Done old (set now i next) i
    behind_more = record {
      len = length-set now i next ∙ behind.len;
      done = behind_done;
      rest = λ k d low. get_or-set_other now i k next d (λ same. omega arith) ∙ behind.rest k d (omega arith);
    }

-- the same, of what was read at i
pub behind_at : {X : Type 0} (Done : ℕ → X → X → Type 0) (old now : List X) (i : ℕ) (x next : X) → AreBehind Done old now (i + 1) → i < length now
    → Done i (get_or now i x) next → AreBehind Done old (set now i next) i
behind_at Done old now i x next behind within step =
    behind_more Done old now i (get_or now i x) next behind within (get_or_default now i x (get_or now i x) within) step

pub behind_none : {X : Type 0} (Done : ℕ → X → X → Type 0) (old : List X) → AreBehind Done old old (length old)
behind_none Done old = record { len = refl; done = λ k d high low. absurd (omega (arith, high, low)); rest = λ k d low. refl }

-- the others of a column are joined
pub record IsJoinedWith (others : List Candidates) (k : ℕ) (old new : Candidates) : Type 0 where
  pub grown : IsGrown old new
  pub joined : (d : Candidates) (f : Field) → Accepts (get_or others k d) f → Accepts new f
  pub has : (d : Candidates) → HasJoined old (get_or others k d) new

pub behind_weaker : {X : Type 0} (P Q : ℕ → X → X → Type 0) (old new : List X) (i : ℕ) → ((k : ℕ) (a b : X) → P k a b → Q k a b) → AreBehind P old new i → AreBehind Q old new i
behind_weaker P Q old new i weaker behind = record {
  len = behind.len;
  done = λ k d high low. weaker k _ _ (behind.done k d high low);
  rest = behind.rest;
}

-- columns that are joined from some on have grown
pub behind_grown : (old new : List Candidates) (i : ℕ) → AreBehind (λ k a b. IsGrown a b) old new i → AreGrown old new
behind_grown old new i behind = record {
  len = behind.len;
  each = λ c d within. elim (cases_lt c i) [
    | inl before ↦ subst (λ (x : Candidates). IsGrown (get_or old c d) x) (sym (behind.rest c d before)) (grown_same (get_or old c d))
    | inr from ↦ behind.done c d from within
  ];
}

-- joined columns accept what they accepted
pub grown_more : (old new : List Candidates) → AreGrown old new → AcceptMore old new
grown_more old new grown = record { len = grown.len; each = λ c d within. (grown.each c d within).preserved }

pub more_same : (cs : List Candidates) → AcceptMore cs cs
more_same cs = record { len = refl; each = λ c d within f accepts. accepts }

-- and look for what they looked for
pub kinds_looked : (point : ℕ) (old new : List Candidates) → AreGrown old new → All (LooksFor point) old → All (LooksFor point) new
kinds_looked point old new grown looks = λ c d within.
    let low : c < length old = omega (arith, grown.len, within) in
    (grown.each c d low).looked point Any (looks c d low)
