-- The rows of a selection, and their entries in a first column and in others.
use Rattle.std.proofs.Common.{◌≡◌, ℕ, Bool, true, false, List, [], ◌∷◌, Option, ℤ, All, Contains, map, filter, refl, ap, sym, subst, ◌∙◌}
use Rattle.std.specs.Prelude.{◌&&◌}
use Rattle.std.specs.List.{items_where_true}
use Rattle.std.specs.Simd.Lanes.{zip2}
use Rattle.std.proofs.lemmas.Simd.{map-map}
use Rattle.std.proofs.lemmas.List.Elements.{All-cons, All-contains, All-contains_itself, All-filter, All-head, All-map, All-nil, All-tail, All-weaker, filter_passes}
use Rattle.bsi_schema.specs.Columns.{entry_at}
use Rattle.bsi_rows.specs.Rows.{row_entries, SourcedRow}
use Rattle.bsi_aggregates.specs.Entries.{is_entry}
use Rattle.bsi_aggregates.specs.ColumnGroups.{rows_with_entry, selected_entries}
use Rattle.bsi_aggregates.specs.Groups.{row_key, selected_keys}
use Rattle.bsi_aggregates.proofs.Order.{entry_is, is_itself}
use Rattle.bsi_aggregates.proofs.Remaining.{entries_passing, unfiltered}

-- what a map makes of the items of a selection
pub found_map : {X Y : Type 0} (f : X → Y) (selection : List Bool) (xs : List X) → items_where_true selection (map f xs) ≡ map f (items_where_true selection xs)
found_map f [] [] = refl
found_map f [] (x ∷ xs) = refl
found_map f (b ∷ selection) [] = refl
found_map f (true ∷ selection) (x ∷ xs) = ap (λ ys. f x ∷ ys) (found_map f selection xs)
found_map f (false ∷ selection) (x ∷ xs) = found_map f selection xs

module _ {X : Type 0} where
  -- what holds of each that a map makes
  pub unmapped : {Y : Type 0} (P : Y → Type 0) (f : X → Y) (xs : List X) → All P (map f xs) → All (λ x. P (f x)) xs
  unmapped P f [] all = All-nil (λ x. P (f x))
  unmapped P f (x ∷ xs) all = All-cons (λ x. P (f x)) x xs (All-head P (f x) (map f xs) all) (unmapped P f xs (All-tail P (f x) (map f xs) all))

  -- what holds of two facts of each
  pub both : (P Q R : X → Type 0) → ((x : X) → P x → Q x → R x) → (xs : List X) → All P xs → All Q xs → All R xs
  both P Q R then_so [] all others = All-nil R
  both P Q R then_so (x ∷ xs) all others =
      All-cons R x xs (then_so x (All-head P x xs all) (All-head Q x xs others)) (both P Q R then_so xs (All-tail P x xs all) (All-tail Q x xs others))

-- a row's entry in a column
abbrev pub entry_in : ℕ → SourcedRow → Option ℤ
entry_in c row = entry_at (row_entries row) c

module _ (selection : List Bool) (first : ℕ) (others : List ℕ) (rows : List SourcedRow) where
  -- the found rows
  abbrev pub found_rows : List SourcedRow
  found_rows = items_where_true selection rows

  pub firsts_are : selected_entries selection first rows ≡ map (entry_in first) found_rows
  firsts_are = found_map (entry_in first) selection rows

  pub keys_are : selected_keys selection (first ∷ others) rows ≡ map (row_key (first ∷ others)) found_rows
  keys_are = found_map (row_key (first ∷ others)) selection rows

  module _ (e : Option ℤ) where
    has : SourcedRow → Bool
    has row = is_entry e (entry_in first row)

    -- the other entries of the rows that have this first one
    abbrev pub other_entries : List (List (Option ℤ))
    other_entries = selected_keys (rows_with_entry selection first rows e) others rows

    others_are : other_entries ≡ map (row_key others) (filter has found_rows)
    unfolding has
    others_are =
        found_map (row_key others) (rows_with_entry selection first rows e) rows
        ∙ ap (λ bits. map (row_key others) (items_where_true (zip2 ◌&&◌ bits selection) rows)) (map-map (is_entry e) (entry_in first) rows)
        ∙ ap (map (row_key others)) (entries_passing has rows selection)

    -- what holds of them holds of each such row's
    pub of_others : (P : List (Option ℤ) → Type 0) → All P other_entries → All (λ row. entry_in first row ≡ e → P (row_key others row)) found_rows
    unfolding has
    of_others P all =
        All-weaker (λ row. has row ≡ true → P (row_key others row)) (λ row. entry_in first row ≡ e → P (row_key others row))
        (λ row holds is. holds (ap (is_entry e) is ∙ is_itself e)) found_rows
        (unfiltered (λ row. P (row_key others row)) has found_rows (unmapped P (row_key others) (filter has found_rows) (subst (All P) others_are all)))

    -- a found row has both
    pub both_there : All (λ ys. Contains (selected_keys selection (first ∷ others) rows) (e ∷ ys)) other_entries
    unfolding has
    both_there =
        subst (All P) (sym others_are)
        (All-map P (row_key others) (filter has found_rows)
        (both There (λ row. has row ≡ true) (λ row. P (row_key others row))
        (λ row there is. subst (λ x. Contains keys (x ∷ row_key others row)) (entry_is e (entry_in first row) is) there) (filter has found_rows)
        (All-filter has There found_rows (unmapped (Contains keys) (row_key (first ∷ others)) found_rows (subst (All (Contains keys)) keys_are (All-contains_itself keys))))
        (filter_passes has found_rows)))
      where
        keys : List (List (Option ℤ))
        keys = selected_keys selection (first ∷ others) rows

        P : List (Option ℤ) → Type 0
        P ys = Contains keys (e ∷ ys)

        There : SourcedRow → Type 0
        There row = Contains keys (row_key (first ∷ others) row)

    -- a first entry has others
    pub others_of : Contains (selected_entries selection first rows) e → (ys : List (Option ℤ)) × Contains other_entries ys
    others_of there =
        All-contains P (map (entry_in first) found_rows) e
        (All-map P (entry_in first) found_rows
        (All-weaker (λ row. entry_in first row ≡ e → Contains other_entries (row_key others row)) (λ row. P (entry_in first row)) (λ row holds is. (row_key others row, holds is)) found_rows
        (of_others (Contains other_entries) (All-contains_itself other_entries))))
        (subst (λ entries. Contains entries e) firsts_are there) refl
      where
        P : Option ℤ → Type 0
        P x = x ≡ e → (ys : List (Option ℤ)) × Contains other_entries ys
