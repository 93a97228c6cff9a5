-- Lists of components, of which one after another is changed.
use Rattle.std.proofs.Common.{◌≡◌, ◌≢◌, ℕ, ◌+◌, ◌*◌, ◌<◌, ◌≤◌, List, [], ◌++◌, length, get_or, set, map, sym, ap, subst, ◌∙◌, inl, inr, arith, ◌∷◌, take, refl, ap₂}
use Rattle.std.proofs.lemmas.List.{length-map, get_or-map, map-set, get_or-set_same, get_or-set_other, map-append, take_more}
use Rattle.std.proofs.Math.Seq.{map-set_same}
use Rattle.std.proofs.lemmas.Bool.{cases_eq}
use Rattle.bsi_digits.specs.Digits.{product, weight, IsBaseList}
use Rattle.bsi_digits.proofs.CallerLemmas.{weight_rises, weight_le_size}

-- two values at least are told apart
pub size_at_least_two : {bs : List ℕ} → IsBaseList bs → 2 ≤ product bs
size_at_least_two {bs} valid =
    let rises : 2 * weight bs 0 ≤ weight bs 1 = weight_rises valid 0 valid.some in
    omega (arith, weight_le_size valid 1)

-- a place past i has another number
pub apart_by : (i k : ℕ) → i + 1 ≤ k → k ≢ i
apart_by i k past same = omega arith

module _ {E X : Type 0} (f : E → X) where
  -- a function of the components after a write, at the place that was written and at another
  pub map_written : (cs : List E) (i : ℕ) (c : E) (d : X) → i < length cs → get_or (map f (set cs i c)) i d ≡ f c
  map_written cs i c d within =
      ap (λ xs. get_or xs i d) (map-set f cs i c) ∙ get_or-set_same (map f cs) i (f c) d (omega (arith, length-map cs f))

  pub map_unwritten : (cs : List E) (i k : ℕ) (c : E) (d : X) → k ≢ i → get_or (map f (set cs i c)) k d ≡ get_or (map f cs) k d
  map_unwritten cs i k c d apart =
      ap (λ xs. get_or xs k d) (map-set f cs i c) ∙ get_or-set_other (map f cs) i k (f c) d apart

-- a component that is read at its place
module _ {E X : Type 0} (f : E → X) where
  pub read_map : (cs : List E) (i : ℕ) (c : E) (d : X) → i < length cs → c ≡ get_or cs i c → get_or (map f cs) i d ≡ f c
  read_map cs i c d within read = get_or-map f cs i c d within ∙ ap f (sym read)

  -- a write that f does not see
  pub map_unchanged : (cs : List E) (i : ℕ) (c new : E) → i < length cs → c ≡ get_or cs i c → f new ≡ f c → map f (set cs i new) ≡ map f cs
  map_unchanged cs i c new within read same = map-set_same f cs i new c (same ∙ ap f read)

-- a function of the components, once one more is appended, and once one more of other components is copied
module _ {E X : Type 0} (f : E → X) where
  pub map_pushed : (cs new : List E) (c : E) (xs : List X) (x : X) → new ≡ cs ++ c ∷ [] → map f cs ≡ xs → f c ≡ x → map f new ≡ xs ++ x ∷ []
  map_pushed cs new c xs x pushed before here = ap (map f) pushed ∙ map-append f cs (c ∷ []) ∙ ap₂ (λ ys y. ys ++ y ∷ []) before here

  pub map_copied : (cs copies new : List E) (i : ℕ) (one copy : E) → i < length cs → one ≡ get_or cs i one → new ≡ copies ++ copy ∷ []
      → map f copies ≡ map f (take i cs) → f copy ≡ f one → map f new ≡ map f (take (i + 1) cs)
  map_copied cs copies new i one copy within read pushed before same =
      let next : take (i + 1) cs ≡ take i cs ++ one ∷ [] = take_more cs i one within ∙ ap (λ c. take i cs ++ c ∷ []) (sym read) in
      map_pushed copies new copy (map f (take i cs)) (f one) pushed before same
      ∙ sym (map_pushed (take i cs) (take (i + 1) cs) one (map f (take i cs)) (f one) next refl refl)

-- lists with one function's values are as long
pub length-same_map : {E X : Type 0} (f : E → X) (cs ds : List E) → map f cs ≡ map f ds → length cs ≡ length ds
length-same_map f cs ds same = sym (length-map cs f) ∙ ap length same ∙ length-map ds f

pub length-map_is : {E X : Type 0} (f : E → X) (cs : List E) (xs : List X) → map f cs ≡ xs → length cs ≡ length xs
length-map_is f cs xs same = sym (length-map cs f) ∙ ap length same

-- a fact of one more component, where those before i have it
module _ {E X : Type 0} (f : E → X) (cs : List E) (i : ℕ) (new : E) (d : X) (within : i < length cs) where
  pub one_more : (P : ℕ → X → Type 0) → P i (f new) → ((k : ℕ) → k < i → P k (get_or (map f cs) k d)) → (k : ℕ) → k < i + 1 → P k (get_or (map f (set cs i new)) k d)
  one_more P here before k below = elim (cases_eq k i) [
    | inl same ↦
        subst (P k) (sym (ap (λ j. get_or (map f (set cs i new)) j d) same ∙ map_written f cs i new d within))
        (subst (λ j. P j (f new)) (sym same) here)
    | inr apart ↦ subst (P k) (sym (map_unwritten f cs i k new d apart)) (before k (omega arith))
  ]

-- more digits, where the components before i have theirs and the others are as they were
module _ {E : Type 0} (digits : E → List ℕ) (cs old : List E) (i : ℕ) (c new : E) (added : ℕ → List ℕ) (within : i < length cs) where
  pub digits_more : c ≡ get_or cs i c → digits new ≡ digits c ++ added i
      → ((k : ℕ) → k < i → get_or (map digits cs) k [] ≡ get_or (map digits old) k [] ++ added k)
      → ((k : ℕ) → i ≤ k → get_or (map digits cs) k [] ≡ get_or (map digits old) k [])
      → (k : ℕ) → k < i + 1 → get_or (map digits (set cs i new)) k [] ≡ get_or (map digits old) k [] ++ added k
  digits_more read pushed done rest k below = elim (cases_eq k i) [
    | inl same ↦
        ap (λ j. get_or (map digits (set cs i new)) j []) same
        ∙ map_written digits cs i new [] within ∙ pushed
        ∙ ap (λ ds. ds ++ added i) (sym (read_map digits cs i c [] within read) ∙ rest i (omega arith))
        ∙ ap (λ j. get_or (map digits old) j [] ++ added j) (sym same)
    | inr apart ↦ map_unwritten digits cs i k new [] apart ∙ done k (omega arith)
  ]

  pub rest_after : ((k : ℕ) → i ≤ k → get_or (map digits cs) k [] ≡ get_or (map digits old) k [])
      → (k : ℕ) → i + 1 ≤ k → get_or (map digits (set cs i new)) k [] ≡ get_or (map digits old) k []
  rest_after rest k past = map_unwritten digits cs i k new [] (apart_by i k past) ∙ rest k (omega arith)

-- the room of the components, of which one is written that has no less than so many fewer
module _ {E : Type 0} (room : E → ℕ) (cs : List E) (i : ℕ) (c new : E) (within : i < length cs) (read : c ≡ get_or cs i c) where
  pub room_of_old : get_or (map room cs) i 0 ≡ room c
  room_of_old = read_map room cs i c 0 within read

  room_of_new : get_or (map room (set cs i new)) i 0 ≡ room new
  room_of_new = map_written room cs i new 0 within

  -- none has less
  pub room_no_less : room c ≤ room new → (k : ℕ) → get_or (map room cs) k 0 ≤ get_or (map room (set cs i new)) k 0
  room_no_less no_less k = elim (cases_eq k i) [
    | inl same ↦
        let here : get_or (map room cs) k 0 ≡ room c = ap (λ j. get_or (map room cs) j 0) same ∙ room_of_old in
        let there : get_or (map room (set cs i new)) k 0 ≡ room new = ap (λ j. get_or (map room (set cs i new)) j 0) same ∙ room_of_new in
        omega (arith, here, there, no_less)
    | inr apart ↦ omega (arith, map_unwritten room cs i k new 0 apart)
  ]

  -- one more has so much
  pub room_more : (more : ℕ) → more ≤ room new → ((k : ℕ) → k < i → more ≤ get_or (map room cs) k 0) → (k : ℕ) → k < i + 1 → more ≤ get_or (map room (set cs i new)) k 0
  room_more more enough before k below = elim (cases_eq k i) [
    | inl same ↦
        let there : get_or (map room (set cs i new)) k 0 ≡ room new = ap (λ j. get_or (map room (set cs i new)) j 0) same ∙ room_of_new in
        omega (arith, there, enough)
    | inr apart ↦ omega (arith, map_unwritten room cs i k new 0 apart, before k (omega arith))
  ]

  -- those up to it have no less than so many fewer, and the others what they had
  pub room_spent : (old : List E) (used : ℕ → ℕ) → room c ≤ room new + used i
      → ((k : ℕ) → get_or (map room old) k 0 ≤ get_or (map room cs) k 0 + used k) → ((k : ℕ) → i ≤ k → get_or (map room cs) k 0 ≡ get_or (map room old) k 0)
      → (k : ℕ) → get_or (map room old) k 0 ≤ get_or (map room (set cs i new)) k 0 + used k
  room_spent old used spent before rest k = elim (cases_eq k i) [
    | inl same ↦
        let here : get_or (map room old) k 0 ≡ room c = ap (λ j. get_or (map room old) j 0) same ∙ sym (rest i (omega arith)) ∙ room_of_old in
        let there : get_or (map room (set cs i new)) k 0 ≡ room new = ap (λ j. get_or (map room (set cs i new)) j 0) same ∙ room_of_new in
        omega (arith, here, there, spent, ap used same)
    | inr apart ↦ omega (arith, map_unwritten room cs i k new 0 apart, before k)
  ]

  pub room_after : (old : List E) → ((k : ℕ) → i ≤ k → get_or (map room cs) k 0 ≡ get_or (map room old) k 0)
      → (k : ℕ) → i + 1 ≤ k → get_or (map room (set cs i new)) k 0 ≡ get_or (map room old) k 0
  room_after old rest k past = map_unwritten room cs i k new 0 (apart_by i k past) ∙ rest k (omega arith)
