-- What is left of a selection once the rows of some entries are split off it.
use Rattle.std.proofs.Common.{◌≡◌, Bool, true, false, true≢false, List, [], ◌∷◌, ◌++◌, ℤ, Option, All, Contains, length, map, filter, cond, inl, inr, refl, ap, ap₂, sym, subst, ◌∙◌, arith}
use Rattle.std.specs.Prelude.{◌&&◌, not, IsTrue}
use Rattle.std.specs.List.{items_where_true, AllPairs}
use Rattle.std.specs.Simd.Lanes.{zip2}
use Rattle.std.proofs.lemmas.Bool.{cases_Bool}
use Rattle.std.proofs.lemmas.List.Elements.{All-cons, All-head, All-nil, All-tail, All-contains, All-contains_itself, All-filter, All-push, Contains-append_left, Contains-push, filter_passes}
use Rattle.std.proofs.lemmas.List.Quantifiers.{all_pairs_push}
use Rattle.std.proofs.lemmas.List.Sums.{AllPass-from_list_all}
use Rattle.bsi_bits.specs.BitList.{without}
use Rattle.bsi_aggregates.specs.Entries.{comes_before, is_entry, IsFirst}
use Rattle.bsi_aggregates.proofs.Order.{after_more, behind, comes_after, entry_is, not_before_itself}

-- the rows of a selection whose entry passes a test
abbrev pub passing : {X : Type 0} → (X → Bool) → List X → List Bool → List Bool
passing test entries selection = zip2 ◌&&◌ (map test entries) selection

-- no entry is split off yet
pub none_taken : (entries : List (Option ℤ)) (selection : List Bool) → length entries ≡ length selection → selection ≡ passing (comes_after []) entries selection
none_taken [] [] same = refl
none_taken [] (f ∷ selection) same = absurd (omega arith)
none_taken (x ∷ entries) [] same = absurd (omega arith)
none_taken (x ∷ entries) (f ∷ selection) same = ap (λ fs. f ∷ fs) (none_taken entries selection (omega arith))

-- the entries of such rows
pub entries_passing : {X : Type 0} (test : X → Bool) (entries : List X) (selection : List Bool)
    → items_where_true (passing test entries selection) entries ≡ filter test (items_where_true selection entries)
entries_passing test [] [] = refl
entries_passing test [] (f ∷ selection) = refl
entries_passing test (x ∷ entries) [] = refl
entries_passing test (x ∷ entries) (true ∷ selection) = by (test x) (entries_passing test entries selection)
  where
    by : (b : Bool) → items_where_true (passing test entries selection) entries ≡ filter test (items_where_true selection entries)
        → items_where_true ((b && true) ∷ passing test entries selection) (x ∷ entries) ≡ cond b (x ∷ filter test (items_where_true selection entries)) (filter test (items_where_true selection entries))
    by true rest = ap (λ xs. x ∷ xs) rest
    by false rest = rest
entries_passing test (x ∷ entries) (false ∷ selection) = by (test x) (entries_passing test entries selection)
  where
    by : (b : Bool) → items_where_true (passing test entries selection) entries ≡ filter test (items_where_true selection entries)
        → items_where_true ((b && false) ∷ passing test entries selection) (x ∷ entries) ≡ filter test (items_where_true selection entries)
    by true rest = rest
    by false rest = rest

-- what holds of all that pass a test
pub unfiltered : {X : Type 0} (P : X → Type 0) (test : X → Bool) (xs : List X) → All P (filter test xs) → All (λ x. test x ≡ true → P x) xs
unfiltered P test [] all = All-nil (λ x. test x ≡ true → P x)
unfiltered P test (x ∷ xs) all = by (test x) refl all (unfiltered P test xs)
  where
    by : (b : Bool) → test x ≡ b → All P (cond b (x ∷ filter test xs) (filter test xs)) → (All P (filter test xs) → All (λ x. test x ≡ true → P x) xs)
        → All (λ x. test x ≡ true → P x) (x ∷ xs)
    by true is all rest = All-cons (λ x. test x ≡ true → P x) x xs (λ _. All-head P x (filter test xs) all) (rest (All-tail P x (filter test xs) all))
    by false is all rest = All-cons (λ x. test x ≡ true → P x) x xs (λ passes. absurd (true≢false (sym passes ∙ is))) (rest all)

module _ (keys : List (Option ℤ)) (e : Option ℤ) where
  -- the rows of an entry that comes after those split off are all left
  pub all_left : comes_after keys e ≡ true → (entries : List (Option ℤ)) (selection : List Bool)
      → passing (is_entry e) entries (passing (comes_after keys) entries selection) ≡ passing (is_entry e) entries selection
  all_left after [] selection = refl
  all_left after (x ∷ entries) [] = refl
  all_left after (x ∷ entries) (f ∷ selection) = ap₂ (λ b bs. b ∷ bs) (by (is_entry e x) refl) (all_left after entries selection)
    where
      by : (b : Bool) → is_entry e x ≡ b → (is_entry e x && (comes_after keys x && f)) ≡ (is_entry e x && f)
      by true is = ap (λ b. is_entry e x && (b && f)) (ap (comes_after keys) (entry_is e x is) ∙ after)
      by false is = ap (λ b. b && (comes_after keys x && f)) is ∙ sym (ap (λ b. b && f) is)

  -- a row stays where its entry comes after this one too
  row_stays : (x : Option ℤ) (f : Bool) → ((comes_after keys x && f) ≡ true → not (comes_before x e) ≡ true)
      → without (comes_after keys x && f) (is_entry e x && (comes_after keys x && f)) ≡ (comes_after (keys ++ e ∷ []) x && f)
  row_stays x f first = by (comes_after keys x && f) refl (is_entry e x) refl ∙ ap (λ b. b && f) (sym (after_more keys e x))
    where
      turned : (a b f : Bool) → ((a && b) && f) ≡ ((a && f) && b)
      turned true true true = refl
      turned true true false = refl
      turned true false true = refl
      turned true false false = refl
      turned false b f = refl

      by : (r : Bool) → (comes_after keys x && f) ≡ r → (s : Bool) → is_entry e x ≡ s
          → without (comes_after keys x && f) (is_entry e x && (comes_after keys x && f)) ≡ ((comes_after keys x && comes_before e x) && f)
      by false left s is =
          ap₂ (λ r s. without r (s && r)) left is ∙ no_row s ∙ sym (turned (comes_after keys x) (comes_before e x) f ∙ ap (λ r. r && comes_before e x) left)
        where
          no_row : (s : Bool) → without false (s && false) ≡ false
          no_row true = refl
          no_row false = refl
      by true left true is =
          ap₂ (λ r s. without r (s && r)) left is
          ∙ sym (turned (comes_after keys x) (comes_before e x) f ∙ ap₂ ◌&&◌ left (ap (comes_before e) (entry_is e x is) ∙ not_before_itself e))
      by true left false is =
          ap₂ (λ r s. without r (s && r)) left is
          ∙ sym (turned (comes_after keys x) (comes_before e x) f ∙ ap₂ ◌&&◌ left (behind e x (first left) is))

  pub rows_left : (entries : List (Option ℤ)) (selection : List Bool)
      → All (λ x. IsTrue (not (comes_before x e))) (items_where_true (passing (comes_after keys) entries selection) entries)
      → zip2 without (passing (comes_after keys) entries selection) (passing (is_entry e) entries (passing (comes_after keys) entries selection))
      ≡ passing (comes_after (keys ++ e ∷ [])) entries selection
  rows_left [] selection first = refl
  rows_left (x ∷ entries) [] first = refl
  rows_left (x ∷ entries) (f ∷ selection) first =
      ap₂ (λ b bs. b ∷ bs) (row_stays x f (head (comes_after keys x && f) refl first)) (rows_left entries selection (tail (comes_after keys x && f) first))
    where
      P : Option ℤ → Type 0
      P x = IsTrue (not (comes_before x e))

      others : List (Option ℤ)
      others = items_where_true (passing (comes_after keys) entries selection) entries

      head : (b : Bool) → (comes_after keys x && f) ≡ b → All P (items_where_true (b ∷ passing (comes_after keys) entries selection) (x ∷ entries))
          → (comes_after keys x && f) ≡ true → not (comes_before x e) ≡ true
      head true is all left = All-head P x others all
      head false is all left = absurd (true≢false (sym left ∙ is))

      tail : (b : Bool) → All P (items_where_true (b ∷ passing (comes_after keys) entries selection) (x ∷ entries)) → All P others
      tail true all = All-tail P x others all
      tail false all = all

-- the entries split off so far: they rise, a selected row has each, and the entry of each selected row is one of them or comes after all
pub record AreTaken (entries keys : List (Option ℤ)) : Type 0 where
  pub rise : AllPairs (λ earlier later. IsTrue (comes_before earlier later)) keys
  pub had : All (Contains entries) keys
  pub all : All (λ x. comes_after keys x ≡ false → Contains keys x) entries

pub nothing_taken : (entries : List (Option ℤ)) → AreTaken entries []
nothing_taken entries = record {
  rise = λ i j d before within. absurd (omega arith);
  had = All-nil (Contains entries);
  all = λ k d within left. absurd (true≢false left);
}

module _ (entries keys : List (Option ℤ)) (e : Option ℤ) (split_off : AreTaken entries keys) (first : IsFirst (filter (comes_after keys) entries) e) where
  pub first_after : comes_after keys e ≡ true
  first_after =
      All-contains (λ x. comes_after keys x ≡ true) (filter (comes_after keys) entries) e (filter_passes (comes_after keys) entries) first.member

  first_found : Contains entries e
  first_found =
      All-contains (Contains entries) (filter (comes_after keys) entries) e
      (All-filter (comes_after keys) (Contains entries) entries (All-contains_itself entries)) first.member

  pub one_taken : AreTaken entries (keys ++ e ∷ [])
  one_taken = record {
    rise = all_pairs_push (λ earlier later. IsTrue (comes_before earlier later)) keys e split_off.rise
        (λ k d within. AllPass-from_list_all (λ key. comes_before key e) keys first_after k d within);
    had = All-push (Contains entries) keys e split_off.had first_found;
    all = λ k d within. by _ (split_off.all k d within) (unfiltered (λ x. IsTrue (not (comes_before x e))) (comes_after keys) entries first.none_before k d within);
  }
    where
      by : (x : Option ℤ) → (comes_after keys x ≡ false → Contains keys x) → (comes_after keys x ≡ true → not (comes_before x e) ≡ true)
          → comes_after (keys ++ e ∷ []) x ≡ false → Contains (keys ++ e ∷ []) x
      by x old none_before left = elim (cases_Bool (comes_after keys x)) [
        | inr before ↦ Contains-append_left keys (e ∷ []) x (old before)
        | inl after ↦ elim (cases_Bool (is_entry e x)) [
          | inl is ↦ subst (Contains (keys ++ e ∷ [])) (sym (entry_is e x is)) (Contains-push keys e)
          | inr other ↦ absurd (true≢false (sym (after_more keys e x ∙ ap₂ ◌&&◌ after (behind e x (none_before after) other)) ∙ left))
        ]
      ]

-- none is left
pub all_taken : (entries keys : List (Option ℤ)) → AreTaken entries keys → filter (comes_after keys) entries ≡ [] → All (Contains keys) entries
all_taken entries keys split_off none =
    λ k d within. by _ (split_off.all k d within) (unfiltered (λ _. ⊥) (comes_after keys) entries (subst (All (λ _. ⊥)) (sym none) (All-nil (λ _. ⊥))) k d within)
  where
    by : (x : Option ℤ) → (comes_after keys x ≡ false → Contains keys x) → (comes_after keys x ≡ true → ⊥) → Contains keys x
    by x split_off not_after = elim (cases_Bool (comes_after keys x)) [
      | inl after ↦ absurd (not_after after)
      | inr before ↦ split_off before
    ]
