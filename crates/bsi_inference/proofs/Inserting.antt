-- Texts in a set, by what each of them has as its bytes.
use Rattle.std.proofs.Common.{◌≡◌, ℕ, zero, suc, get_or, ◌+◌, ◌<◌, ◌≤◌, ◌⊎◌, inl, inr, Bool, true, false, ◌||◌, List, [], ◌∷◌, length, map, Result, Ok, Err, OnOk, OnErr, arith, refl, sym, subst, ap, ◌∙◌}
use Rattle.std.proofs.lemmas.Bool.{cases_eq}
use Rattle.std.proofs.lemmas.List.{get_or_default, get_or-map, length-map}
use Rattle.std.proofs.lemmas.Cmp.{nat_list_cmp_total, tied_itself}
use Rattle.std.proofs.lemmas.Map.Text.{is_eq-slice_cmp}
use Rattle.std.proofs.lemmas.Slice.Eq.{bytes_eq-Decides}
use Rattle.std.specs.BTreeSet.{insert_key}
use Rattle.std.specs.Cmp.Lexicographic.{slice_cmp}
use Rattle.std.specs.List.{list_any, Contains}
use Rattle.std.specs.List.Sorted.{IsStrictlySortedBy}
use Rattle.std.specs.Ordering.{is_eq, match_ordering, nat_cmp}
use Rattle.std.specs.declared.cmp.Ordering.{Ordering}
use Rattle.std.specs.declared.cmp.Ordering.TheVariants.{Less, Equal, Greater}
use Rattle.bsi_kinds.specs.Dictionaries.{text_at, AreRising}
use Rattle.bsi_inference.specs.Texts.{HasAddedText}

-- texts that tie are one text
same_text : (a b : List ℕ) → slice_cmp nat_cmp a b ≡ Equal → a ≡ b
same_text a b is = (bytes_eq-Decides a b).0 (sym (is_eq-slice_cmp a b) ∙ ap is_eq is)

-- a test of the first or of the others
either : (a b : Bool) → (a || b) ≡ true → (a ≡ true) ⊎ (b ≡ true)
either true b is = inl refl
either false b is = inr is

or_left : (a b : Bool) → a ≡ true → (a || b) ≡ true
or_left true b is = refl
or_left false b is = absurd (cc)

or_right : (a b : Bool) → b ≡ true → (a || b) ≡ true
or_right true b is = refl
or_right false b is = is

equal_from : (o : Ordering) → is_eq o ≡ true → o ≡ Equal
equal_from Less is = absurd (cc)
equal_from Equal is = refl
equal_from Greater is = absurd (cc)

module _ {X : Type 0} (f : X → List ℕ) where
  abbrev pub order : X → X → Ordering
  order x y = slice_cmp nat_cmp (f x) (f y)

  abbrev pub finds : List ℕ → X → Bool
  finds text x = is_eq (slice_cmp nat_cmp text (f x))

  here : (x : X) (xs : List X) (text : List ℕ) → f x ≡ text → Contains (map f (x ∷ xs)) text
  here x xs text is = (0, omega arith, is)

  later : (x : X) (xs : List X) (text : List ℕ) → Contains (map f xs) text → Contains (map f (x ∷ xs)) text
  later x xs text has = let within = has.1 in (suc has.0, omega (arith, within), has.2)

  first_or_later : (x : X) (xs : List X) (text : List ℕ) → Contains (map f (x ∷ xs)) text → (f x ≡ text) ⊎ Contains (map f xs) text
  first_or_later x xs text (zero, within, is) = inl is
  first_or_later x xs text (suc k, within, is) = inr (k, omega (arith, within), is)

  -- a text that the look-up finds is there, and one that is there is found
  pub found : (text : List ℕ) (xs : List X) → list_any (finds text) xs ≡ true → Contains (map f xs) text
  found text [] is = absurd (cc)
  found text (x ∷ xs) is = elim (either (finds text x) (list_any (finds text) xs) is) [
    | inl first ↦ here x xs text (sym (same_text text (f x) (equal_from (slice_cmp nat_cmp text (f x)) first)))
    | inr rest ↦ later x xs text (found text xs rest)
  ]

  pub is_found : (text : List ℕ) (xs : List X) → Contains (map f xs) text → list_any (finds text) xs ≡ true
  is_found text [] has = let within = has.1 in absurd (omega (arith, within))
  is_found text (x ∷ xs) has = elim (first_or_later x xs text has) [
    | inl first ↦ or_left (finds text x) (list_any (finds text) xs)
        (ap is_eq (ap (λ t. slice_cmp nat_cmp text t) first ∙ tied_itself nat_list_cmp_total text))
    | inr rest ↦ or_right (finds text x) (list_any (finds text) xs) (is_found text xs rest)
  ]

  -- a text that is inserted is there, and the others stay
  module _ (k x : X) (xs : List X) where
    abbrev inserted : Ordering → List X
    inserted o = match_ordering o (k ∷ x ∷ xs) (x ∷ xs) (x ∷ insert_key order xs k)

    has_at : Contains (map f (insert_key order xs k)) (f k) → (o : Ordering) → order k x ≡ o → Contains (map f (inserted o)) (f k)
    has_at rest Less is = here k (x ∷ xs) (f k) refl
    has_at rest Equal is = here x xs (f k) (sym (same_text (f k) (f x) is))
    has_at rest Greater is = later x (insert_key order xs k) (f k) rest

    keeps_at : (text : List ℕ) → (Contains (map f xs) text → Contains (map f (insert_key order xs k)) text) → (o : Ordering)
        → Contains (map f (x ∷ xs)) text → Contains (map f (inserted o)) text
    keeps_at text rest Less has = later k (x ∷ xs) text has
    keeps_at text rest Equal has = has
    keeps_at text rest Greater has = elim (first_or_later x xs text has) [
      | inl first ↦ here x (insert_key order xs k) text first
      | inr others ↦ later x (insert_key order xs k) text (rest others)
    ]

    only_at : (text : List ℕ) → (Contains (map f (insert_key order xs k)) text → Contains (map f xs) text ⊎ (text ≡ f k)) → (o : Ordering)
        → Contains (map f (inserted o)) text → Contains (map f (x ∷ xs)) text ⊎ (text ≡ f k)
    only_at text rest Less has = elim (first_or_later k (x ∷ xs) text has) [
      | inl first ↦ inr (sym first)
      | inr others ↦ inl others
    ]
    only_at text rest Equal has = inl has
    only_at text rest Greater has = elim (first_or_later x (insert_key order xs k) text has) [
      | inl first ↦ inl (here x xs text first)
      | inr others ↦ elim (rest others) [ inl old ↦ inl (later x xs text old) | inr new ↦ inr new ]
    ]

    len_at : length (map f (insert_key order xs k)) ≤ length (map f xs) + 1 → (o : Ordering)
        → length (map f (inserted o)) ≤ length (map f (x ∷ xs)) + 1
    len_at rest Less = omega arith
    len_at rest Equal = omega arith
    len_at rest Greater = omega arith

  has : (xs : List X) (k : X) → Contains (map f (insert_key order xs k)) (f k)
  has [] k = here k [] (f k) refl
  has (x ∷ xs) k = has_at k x xs (has xs k) (order k x) refl

  keeps : (xs : List X) (k : X) (text : List ℕ) → Contains (map f xs) text → Contains (map f (insert_key order xs k)) text
  keeps [] k text there = let within = there.1 in absurd (omega (arith, within))
  keeps (x ∷ xs) k text there = keeps_at k x xs text (keeps xs k text) (order k x) there

  only : (xs : List X) (k : X) (text : List ℕ) → Contains (map f (insert_key order xs k)) text → Contains (map f xs) text ⊎ (text ≡ f k)
  only [] k text there = elim (first_or_later k [] text there) [ inl first ↦ inr (sym first) | inr others ↦ inl others ]
  only (x ∷ xs) k text there = only_at k x xs text (only xs k text) (order k x) there

  len : (xs : List X) (k : X) → length (map f (insert_key order xs k)) ≤ length (map f xs) + 1
  len [] k = omega arith
  len (x ∷ xs) k = len_at k x xs (len xs k) (order k x)

  -- a set with a text more
  pub gained : (old new : List X) (k : X) (was : List (List ℕ)) (text : List ℕ) (is : List (List ℕ)) → map f old ≡ was → f k ≡ text → map f new ≡ is → new ≡ insert_key order old k
      → (Contains was text → ⊥) → HasAddedText was text is
  gained old new k was text is at_old at_text at_new put absent =
      let now : is ≡ map f (insert_key order old k) = sym at_new ∙ ap (map f) put in
      let none : Contains (map f old) (f k) → ⊥ =
      λ there. absent (subst (λ (w : List (List ℕ)). Contains w text) at_old (subst (λ (t : List ℕ). Contains (map f old) t) at_text there)) in
      subst (λ (w : List (List ℕ)). HasAddedText w text is) at_old
      (subst (λ (t : List ℕ). HasAddedText (map f old) t is) at_text
      (subst (λ (n : List (List ℕ)). HasAddedText (map f old) (f k) n) (sym now)
      (record { added = has old k; preserved = keeps old k; only = only old k; same = λ there. absurd (none there); len = len old k })))

  -- keys in order rise
  pub rising : (xs : List X) → IsStrictlySortedBy order xs → AreRising (map f xs)
  unfolding IsStrictlySortedBy
  rising [] sorted k within = absurd (omega (arith, within))
  rising (x ∷ []) sorted k within = absurd (omega (arith, within))
  rising (x ∷ y ∷ xs) sorted zero within = sorted.0.0
  rising (x ∷ y ∷ xs) sorted (suc k) within =
      let next : slice_cmp nat_cmp (text_at (map f (y ∷ xs)) k) (text_at (map f (y ∷ xs)) (k + 1)) ≡ Less = rising (y ∷ xs) sorted.1 k (omega (arith, within)) in
      let at : suc k + 1 ≡ suc (k + 1) = omega arith in
      ap (λ j. slice_cmp nat_cmp (text_at (map f (y ∷ xs)) k) (text_at (map f (x ∷ y ∷ xs)) j)) at ∙ next

pub on_ok : {T E : Type 0} (r : Result T E) (P : Type 0) → P → OnOk r P
on_ok (Ok x) P holds = holds
on_ok (Err e) P holds = tt

-- texts stay few where there was room for one more, or it is one of them
pub few_after : {T E : Type 0} (r : Result T E) (old new : List (List ℕ)) (text : List ℕ) (most : ℕ) → OnOk r (HasAddedText old text new) → OnErr r (new ≡ old)
    → length old ≤ most → (length old < most) ⊎ Contains old text → length new ≤ most
few_after (Ok x) old new text most gains same few (inl room) = let more = gains.len in omega (arith, more)
few_after (Ok x) old new text most gains same few (inr there) = subst (λ (ts : List (List ℕ)). length ts ≤ most) (sym (gains.same there)) few
few_after (Err e) old new text most gains same few room = subst (λ (ts : List (List ℕ)). length ts ≤ most) (sym same) few

-- the first so many of some texts were added to what was there
pub record AreAdded {X : Type 0} (f : X → List ℕ) (Old New : List ℕ → Type 0) (xs : List X) (i : ℕ) : Type 0 where
  pub preserved : (text : List ℕ) → Old text → New text
  pub added : (k : ℕ) (d : X) → k < i → New (f (get_or xs k d))

-- one more
pub added_more : {X : Type 0} (f : X → List ℕ) (Old Now New : List ℕ → Type 0) (xs : List X) (i : ℕ) (x : X) → i < length xs → x ≡ get_or xs i x
    → AreAdded f Old Now xs i → New (f x) → ((text : List ℕ) → Now text → New text) → AreAdded f Old New xs (i + 1)
added_more {X = X} f Old Now New xs i x within is were here keeps = record {
  preserved = λ text old. keeps text (were.preserved text old);
  added = λ k d low. elim (cases_eq k i) [
    | inl same ↦ (
        let read : get_or xs k d ≡ x = ap (λ j. get_or xs j d) same ∙ get_or_default xs i d x within ∙ sym is in
        subst (λ (y : X). New (f y)) (sym read) here)
    | inr other ↦ keeps (f (get_or xs k d)) (were.added k d (omega arith))
  ];
}

-- all of them
pub all_added : {X : Type 0} (f : X → List ℕ) (New : List ℕ → Type 0) (xs : List X) → ((k : ℕ) (d : X) → k < length xs → New (f (get_or xs k d)))
    → (text : List ℕ) → Contains (map f xs) text → New text
all_added f New [] added text there = let within = there.1 in absurd (omega (arith, within))
all_added f New (x ∷ xs) added text (zero, within, is) = subst New is (added 0 x (omega arith))
all_added f New (x ∷ xs) added text (suc k, within, is) =
    all_added f New xs (λ j d low. added (suc j) d (omega (arith, low))) text (k, omega (arith, within), is)

-- what is there was there, or is among the texts that were added
pub only_more : {X : Type 0} (f : X → List ℕ) (Old Now New : List ℕ → Type 0) (xs : List X) (i : ℕ) (x : X) → i < length xs → x ≡ get_or xs i x
    → ((text : List ℕ) → Now text → Old text ⊎ Contains (map f xs) text) → ((text : List ℕ) → New text → Now text ⊎ (text ≡ f x))
    → (text : List ℕ) → New text → Old text ⊎ Contains (map f xs) text
only_more {X = X} f Old Now New xs i x within is were only text there = elim (only text there) [
  | inl before ↦ were text before
  | inr same ↦ inr (i, simp length-map within, get_or-map f xs i x text within ∙ ap f (sym is) ∙ sym same)
]

pub gained_only : {T E : Type 0} (r : Result T E) (old new : List (List ℕ)) (text : List ℕ) → OnOk r (HasAddedText old text new) → OnErr r (new ≡ old)
    → (f : List ℕ) → Contains new f → Contains old f ⊎ (f ≡ text)
gained_only (Ok x) old new text gains same f there = gains.only f there
gained_only (Err e) old new text gains same f there = inl (subst (λ (ts : List (List ℕ)). Contains ts f) same there)

pub in_other : {Before : Type 0} {texts other : List (List ℕ)} {f : List ℕ} → texts ≡ other → Before ⊎ Contains texts f → Before ⊎ Contains other f
in_other same (inl before) = inl before
in_other {f = f} same (inr there) = inr (subst (λ (ts : List (List ℕ)). Contains ts f) same there)

-- no text is there
pub none_there : (f : List ℕ) (texts : List (List ℕ)) → texts ≡ [] → Contains texts f → ⊥
none_there f [] is there = let within = there.1 in omega (arith, within)
none_there f (t ∷ ts) is there = absurd (cc)
