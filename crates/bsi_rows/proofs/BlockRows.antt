-- The rows of a block, by the places of its columns.
use Rattle.std.proofs.Common.{◌≡◌, ℕ, ◌<◌, ◌≤◌, List, [], ◌∷◌, ◌++◌, Option, None, Some, All, length, map, ℤ, refl, ap, ap₂, subst, sym, ◌∙◌, arith}
use Rattle.std.specs.Prelude.{slice_get, slice_index}
use Rattle.std.specs.List.{range_with_len}
use Rattle.std.proofs.lemmas.List.{get_or_append_left, get_or_past, length-append}
use Rattle.std.proofs.lemmas.List.Elements.{All-from_get_or}
use Rattle.std.proofs.lemmas.List.FromFn.{fill_by_all, get_or-map-range_with_len, length-map-range_with_len, map-range_with_len_more}
use Rattle.std.proofs.lemmas.Option.{slice_get-get_or}
use Rattle.std.proofs.Math.Seq.{get_or-append_seam}
use Rattle.bsi_rows.specs.RowBlocks.{entries_of, row_of_cells, rows_of_cells}
use Rattle.bsi_rows.specs.Rows.{column_of, entry_at, feeders_of, Entries, SourcedRow}

pub map_twice : {X Y Z : Type 0} (f : Y → Z) (g : X → Y) (xs : List X) → map f (map g xs) ≡ map (λ x. f (g x)) xs
map_twice f g [] = refl
map_twice f g (x ∷ xs) = ap (λ ys. f (g x) ∷ ys) (map_twice f g xs)

-- two functions that agree below n
pub same_below : {X : Type 0} (default : X) (f g : ℕ → X) (n : ℕ) → ((r : ℕ) → r < n → f r ≡ g r) → map f (range_with_len 0 n) ≡ map g (range_with_len 0 n)
same_below default f g n each =
    fill_by_all g (map f (range_with_len 0 n)) n default (length-map-range_with_len f 0 n)
    (λ i within. get_or-map-range_with_len f 0 n i i default within (omega arith) ∙ each i within)

module _ (columns : ℕ) (row_feeders : List ℕ) (entry : ℕ → ℕ → Option ℤ) where
  pub length-rows_of_cells : length (rows_of_cells columns row_feeders entry) ≡ length row_feeders
  unfolding rows_of_cells
  length-rows_of_cells = length-map-range_with_len (λ r. (slice_index row_feeders r, row_of_cells columns entry r)) 0 (length row_feeders)

  pub feeders-rows_of_cells : feeders_of (rows_of_cells columns row_feeders entry) ≡ row_feeders
  unfolding rows_of_cells
  feeders-rows_of_cells =
      map_twice (λ row. row.0) (λ r. (slice_index row_feeders r, row_of_cells columns entry r)) (range_with_len 0 (length row_feeders))
      ∙ sym (fill_by_all (λ r. slice_index row_feeders r) row_feeders (length row_feeders) 0 refl (λ r below. refl))

  -- entry c of a row
  pub entry-row_of_cells : (c r : ℕ) → c < columns → entry_at (row_of_cells columns entry r) c ≡ entry c r
  unfolding row_of_cells
  entry-row_of_cells c r within = get_or-map-range_with_len (λ c. entry c r) 0 columns c c None within (omega arith)

  -- a column of them
  pub column-rows_of_cells : (c : ℕ) → c < columns → column_of (rows_of_cells columns row_feeders entry) c ≡ map (entry c) (range_with_len 0 (length row_feeders))
  unfolding rows_of_cells
  column-rows_of_cells c within =
      let n = length row_feeders in
      map_twice (λ row. entry_at row.1 c) (λ r. (slice_index row_feeders r, row_of_cells columns entry r)) (range_with_len 0 n)
      ∙ same_below None (λ r. entry_at (row_of_cells columns entry r) c) (entry c) n (λ r below. entry-row_of_cells c r within)

  -- past the last column there is none
  pub no_column-rows_of_cells : (c : ℕ) → columns ≤ c → column_of (rows_of_cells columns row_feeders entry) c ≡ map (λ r. None) (range_with_len 0 (length row_feeders))
  unfolding rows_of_cells row_of_cells
  no_column-rows_of_cells c past =
      let n = length row_feeders in
      map_twice (λ row. entry_at row.1 c) (λ r. (slice_index row_feeders r, row_of_cells columns entry r)) (range_with_len 0 n)
      ∙ same_below None (λ r. entry_at (row_of_cells columns entry r) c) (λ r. None) n
      (λ r below. get_or_past (row_of_cells columns entry r) c None (omega (arith, past, length-map-range_with_len (λ c. entry c r) 0 columns)))

  -- the entries of each row
  pub entries-rows_of_cells : entries_of (rows_of_cells columns row_feeders entry) ≡ map (row_of_cells columns entry) (range_with_len 0 (length row_feeders))
  unfolding rows_of_cells
  entries-rows_of_cells =
      map_twice (λ row. row.1) (λ r. (slice_index row_feeders r, row_of_cells columns entry r)) (range_with_len 0 (length row_feeders))

  -- those of row r
  pub row-rows_of_cells : (r : ℕ) → r < length row_feeders → slice_get (entries_of (rows_of_cells columns row_feeders entry)) r ≡ Some (row_of_cells columns entry r)
  row-rows_of_cells r below =
      let rows = map (row_of_cells columns entry) (range_with_len 0 (length row_feeders)) in
      ap (λ es. slice_get es r) entries-rows_of_cells
      ∙ slice_get-get_or rows r [] (omega (arith, below, length-map-range_with_len (row_of_cells columns entry) 0 (length row_feeders)))
      ∙ ap Some (get_or-map-range_with_len (row_of_cells columns entry) 0 (length row_feeders) r r [] below (omega arith))

  -- a fact of each row, by its feeder and its entries
  pub All-rows_of_cells : (P : SourcedRow → Type 0) → ((r : ℕ) → r < length row_feeders → P (slice_index row_feeders r, row_of_cells columns entry r)) → All P (rows_of_cells columns row_feeders entry)
  unfolding rows_of_cells
  All-rows_of_cells P each =
      let row : ℕ → SourcedRow = λ r. (slice_index row_feeders r, row_of_cells columns entry r) in
      All-from_get_or P (map row (range_with_len 0 (length row_feeders))) (0, [])
      (λ r below.
      let there : r < length row_feeders = omega (arith, below, length-map-range_with_len row 0 (length row_feeders)) in
      subst P (sym (get_or-map-range_with_len row 0 (length row_feeders) r r (0, []) there (omega arith))) (each r there))

-- before the first there is none
pub rows_of_cells-none : (columns : ℕ) (row_feeders : List ℕ) (entry : ℕ → ℕ → Option ℤ) → row_feeders ≡ [] → rows_of_cells columns row_feeders entry ≡ []
unfolding rows_of_cells
rows_of_cells-none columns row_feeders entry none = ap (λ xs. rows_of_cells columns xs entry) none

-- other entries below the same number of rows
module _ (columns : ℕ) (row_feeders : List ℕ) (old new : ℕ → ℕ → Option ℤ) where
  pub row_of_cells-same : (r : ℕ) → ((c : ℕ) → c < columns → new c r ≡ old c r) → row_of_cells columns new r ≡ row_of_cells columns old r
  unfolding row_of_cells
  row_of_cells-same r same = same_below None (λ c. new c r) (λ c. old c r) columns same

  pub rows_of_cells-same : ((c r : ℕ) → c < columns → r < length row_feeders → new c r ≡ old c r) → rows_of_cells columns row_feeders new ≡ rows_of_cells columns row_feeders old
  unfolding rows_of_cells
  rows_of_cells-same same =
      same_below (0, []) (λ r. (slice_index row_feeders r, row_of_cells columns new r)) (λ r. (slice_index row_feeders r, row_of_cells columns old r)) (length row_feeders)
      (λ r below. ap (λ (row : Entries). (slice_index row_feeders r, row)) (row_of_cells-same r (λ c within. same c r within below)))

-- a row is written behind the others
module _ (columns : ℕ) (row_feeders : List ℕ) (old new : ℕ → ℕ → Option ℤ) (feeder : ℕ) (row : Entries) (wide : length row ≡ columns)
    (others : (c r : ℕ) → r < length row_feeders → new c r ≡ old c r) (written : (c : ℕ) → c < columns → new c (length row_feeders) ≡ entry_at row c) where
  pub row_of_cells-written : row_of_cells columns new (length row_feeders) ≡ row
  unfolding row_of_cells
  row_of_cells-written = sym (fill_by_all (λ c. new c (length row_feeders)) row columns None wide (λ c within. sym (written c within)))

  pub rows_of_cells-more : rows_of_cells columns (row_feeders ++ feeder ∷ []) new ≡ rows_of_cells columns row_feeders old ++ (feeder, row) ∷ []
  unfolding rows_of_cells
  rows_of_cells-more =
      let now : ℕ → SourcedRow = λ r. (slice_index (row_feeders ++ feeder ∷ []) r, row_of_cells columns new r) in
      let then : ℕ → SourcedRow = λ r. (slice_index row_feeders r, row_of_cells columns old r) in
      let pair : ℕ → Entries → SourcedRow = λ s entries. (s, entries) in
      let n = length row_feeders in
      let earlier : map now (range_with_len 0 n) ≡ map then (range_with_len 0 n) =
      same_below (0, []) now then n (λ r below. ap₂ pair (get_or_append_left row_feeders (feeder ∷ []) 0 r below) (row_of_cells-same columns row_feeders old new r (λ c within. others c r below))) in
      let last : now n ≡ (feeder, row) = ap₂ pair (get_or-append_seam row_feeders feeder [] 0) row_of_cells-written in
      ap (λ m. map now (range_with_len 0 m)) (length-append row_feeders (feeder ∷ []))
      ∙ map-range_with_len_more now 0 n n (omega arith) ∙ ap₂ (λ xs x. xs ++ x ∷ []) earlier last
