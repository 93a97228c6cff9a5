-- The rows of a table, by the columns that keep them.
use Rattle.std.proofs.Common.{◌≡◌, ℕ, zero, suc, ◌+◌, ◌-◌, ◌<◌, ◌≤◌, Bool, true, false, List, [], ◌∷◌, ◌++◌, None, All, length, map, get_or, refl, ap, ap₂, subst, sym, ◌∙◌, arith}
use Rattle.std.specs.Prelude.{nat_lt, slice_get, slice_index, Some}
use Rattle.std.proofs.lemmas.Option.{slice_get-get_or}
use Rattle.std.specs.List.{range_with_len}
use Rattle.std.proofs.lemmas.List.{ext_get_or, get_or-append-add, get_or-map, get_or_append_left, length-append, length-map}
use Rattle.std.proofs.lemmas.List.Elements.{All-from_get_or, All-get_or}
use Rattle.std.proofs.lemmas.List.FromFn.{fill_by_all, get_or-map-range_with_len, length-map-range_with_len}
use Rattle.bsi_digits.specs.Orders.{values_at}
use Rattle.bsi_shift.specs.Shifted.{shifted_entries, OffsetColumn}
use Rattle.bsi_rows.specs.Rows.{column_of, entry_at, feeders_of, row_at, Entries, SourcedRow}
use Rattle.bsi_rows.proofs.BlockRows.{map_twice, same_below}
use Rattle.bsi_table.specs.Encoded.{sourced_rows, encoded_at, no_entries, row_in, rows_in, HaveMore}
use Rattle.std.proofs.lemmas.Bool.Decides.{nat_tests}

-- a column as it is read
pub encoded_read : (encoded : List OffsetColumn) (c : ℕ) (column : OffsetColumn) → c < length encoded → column ≡ get_or encoded c column → encoded_at encoded c ≡ column
encoded_read [] c column within is = absurd (omega arith)
encoded_read (k ∷ encoded) zero column within is = sym is
encoded_read (k ∷ encoded) (suc c) column within is = encoded_read encoded c column (omega arith) is

module _ (encoded : List OffsetColumn) where
  pub length-rows_in : (n : ℕ) → length (rows_in encoded n) ≡ n
  unfolding rows_in
  length-rows_in n = length-map-range_with_len (row_in encoded) 0 n

  -- entry c of a row is that of column c
  pub entry-row_in : (c r : ℕ) → c < length encoded → entry_at (row_in encoded r) c ≡ get_or (shifted_entries (encoded_at encoded c)) r None
  entry-row_in c r within = get_or-map (λ column. get_or (shifted_entries column) r None) encoded c no_entries None within

  -- entries c of the rows are those of column c
  pub column-rows_in : (c n : ℕ) → c < length encoded → length (shifted_entries (encoded_at encoded c)) ≡ n
      → map (λ row. entry_at row c) (rows_in encoded n) ≡ shifted_entries (encoded_at encoded c)
  unfolding rows_in
  column-rows_in c n within even =
      map_twice (λ row. entry_at row c) (row_in encoded) (range_with_len 0 n)
      ∙ sym (fill_by_all (λ r. entry_at (row_in encoded r) c) (shifted_entries (encoded_at encoded c)) n None even (λ r below. sym (entry-row_in c r within)))

module _ (row_feeders : List ℕ) (encoded : List OffsetColumn) where
  pub length-sourced_rows : length (sourced_rows row_feeders encoded) ≡ length row_feeders
  unfolding sourced_rows
  length-sourced_rows = length-map-range_with_len (λ r. (slice_index row_feeders r, row_in encoded r)) 0 (length row_feeders)

  pub feeders-sourced_rows : feeders_of (sourced_rows row_feeders encoded) ≡ row_feeders
  unfolding sourced_rows
  feeders-sourced_rows =
      map_twice (λ row. row.0) (λ r. (slice_index row_feeders r, row_in encoded r)) (range_with_len 0 (length row_feeders))
      ∙ sym (fill_by_all (λ r. slice_index row_feeders r) row_feeders (length row_feeders) 0 refl (λ r below. refl))

  -- the entries of row r
  pub entries-sourced_rows : (r : ℕ) → r < length row_feeders → slice_get (map (λ row. row.1) (sourced_rows row_feeders encoded)) r ≡ Some (row_in encoded r)
  unfolding sourced_rows
  entries-sourced_rows r below =
      let rows = map (row_in encoded) (range_with_len 0 (length row_feeders)) in
      ap (λ es. slice_get es r) (map_twice (λ row. row.1) (λ r. (slice_index row_feeders r, row_in encoded r)) (range_with_len 0 (length row_feeders)))
      ∙ slice_get-get_or rows r [] (omega (arith, below, length-map-range_with_len (row_in encoded) 0 (length row_feeders)))
      ∙ ap Some (get_or-map-range_with_len (row_in encoded) 0 (length row_feeders) r r [] below (omega arith))

  -- a function of the rows' entries
  pub map-sourced_rows : {X : Type 0} (f : Entries → X) → map (λ row. f row.1) (sourced_rows row_feeders encoded) ≡ map f (rows_in encoded (length row_feeders))
  unfolding sourced_rows rows_in
  map-sourced_rows f =
      map_twice (λ row. f row.1) (λ r. (slice_index row_feeders r, row_in encoded r)) (range_with_len 0 (length row_feeders))
      ∙ sym (map_twice f (row_in encoded) (range_with_len 0 (length row_feeders)))

  -- entries c of the rows are those of column c
  pub column-sourced_rows : (c : ℕ) → c < length encoded → length (shifted_entries (encoded_at encoded c)) ≡ length row_feeders
      → column_of (sourced_rows row_feeders encoded) c ≡ shifted_entries (encoded_at encoded c)
  column-sourced_rows c within even = map-sourced_rows (λ row. entry_at row c) ∙ column-rows_in encoded c (length row_feeders) within even

  -- column c, as it is read, has an entry for each row, and its numbers at the rows of a selection are those of the
  -- rows
  module _ (bits : List Bool) (long : length bits ≡ length row_feeders)
      (even : (k : ℕ) → k < length encoded → length (shifted_entries (encoded_at encoded k)) ≡ length row_feeders)
      (c : ℕ) (column : OffsetColumn) (within : c < length encoded) (read : column ≡ get_or encoded c column) where
    pub even-read : length (shifted_entries column) ≡ length bits
    even-read = ap (λ k. length (shifted_entries k)) (sym (encoded_read encoded c column within read)) ∙ even c within ∙ sym long

    pub numbers-read : values_at bits (shifted_entries column) ≡ values_at bits (column_of (sourced_rows row_feeders encoded) c)
    numbers-read =
        ap (values_at bits) (ap shifted_entries (sym (encoded_read encoded c column within read)) ∙ sym (column-sourced_rows c within (even c within)))

-- columns of the same entries show the same rows
pub rows_in-same : (old new : List OffsetColumn) (r : ℕ) → length new ≡ length old
    → ((c : ℕ) → c < length old → shifted_entries (encoded_at new c) ≡ shifted_entries (encoded_at old c)) → row_in new r ≡ row_in old r
rows_in-same old new r long each =
    ext_get_or None (row_in new r) (row_in old r) (length-map new _ ∙ long ∙ sym (length-map old _))
    (λ c below.
    let there : c < length new = omega (arith, length-map new (λ column. get_or (shifted_entries column) r None)) in
    entry-row_in new c r there ∙ ap (λ es. get_or es r None) (each c (omega arith)) ∙ sym (entry-row_in old c r (omega arith)))

pub sourced_rows-same : (row_feeders : List ℕ) (old new : List OffsetColumn) → length new ≡ length old
    → ((c : ℕ) → c < length old → shifted_entries (encoded_at new c) ≡ shifted_entries (encoded_at old c)) → sourced_rows row_feeders new ≡ sourced_rows row_feeders old
unfolding sourced_rows
sourced_rows-same row_feeders old new long each =
    same_below (0, []) (λ r. (slice_index row_feeders r, row_in new r)) (λ r. (slice_index row_feeders r, row_in old r)) (length row_feeders)
    (λ r below. ap (λ row. (slice_index row_feeders r, row)) (rows_in-same old new r long each))

-- a fact of each row, by its feeder and its entries
pub All-sourced_rows : (row_feeders : List ℕ) (encoded : List OffsetColumn) (P : SourcedRow → Type 0)
    → ((r : ℕ) → r < length row_feeders → P (slice_index row_feeders r, row_in encoded r)) → All P (sourced_rows row_feeders encoded)
unfolding sourced_rows
All-sourced_rows row_feeders encoded P each =
    let row : ℕ → SourcedRow = λ r. (slice_index row_feeders r, row_in encoded r) in
    All-from_get_or P (map row (range_with_len 0 (length row_feeders))) (0, [])
    (λ r below.
    let there : r < length row_feeders = omega (arith, below, length-map-range_with_len row 0 (length row_feeders)) in
    subst P (sym (get_or-map-range_with_len row 0 (length row_feeders) r r (0, []) there (omega arith))) (each r there))

-- before the first there is none
pub sourced_rows-none : (row_feeders : List ℕ) (encoded : List OffsetColumn) → row_feeders ≡ [] → sourced_rows row_feeders encoded ≡ []
unfolding sourced_rows
sourced_rows-none row_feeders encoded none = ap (λ xs. sourced_rows xs encoded) none

-- and with more entries in each column, more rows
pub sourced_rows-more : (row_feeders : List ℕ) (old new : List OffsetColumn) (rows : List SourcedRow) → length new ≡ length old
    → All (λ row. length row.1 ≡ length old) rows
    → ((c : ℕ) → c < length old → length (shifted_entries (encoded_at old c)) ≡ length row_feeders)
    → HaveMore old new rows
    → sourced_rows (row_feeders ++ feeders_of rows) new ≡ sourced_rows row_feeders old ++ rows
unfolding sourced_rows
sourced_rows-more row_feeders old new rows long wide even more =
    sym (fill_by_all now (map then (range_with_len 0 (length row_feeders)) ++ rows) (length (row_feeders ++ feeders_of rows)) (0, []) longer
    (λ r below. at r (omega (arith, below, all)) (nat_lt r (length row_feeders)) refl))
  where
    then : ℕ → SourcedRow
    then r = (slice_index row_feeders r, row_in old r)

    now : ℕ → SourcedRow
    now r = (slice_index (row_feeders ++ feeders_of rows) r, row_in new r)

    pair : ℕ → Entries → SourcedRow
    pair s entries = (s, entries)

    before : length (map then (range_with_len 0 (length row_feeders))) ≡ length row_feeders
    before = length-map-range_with_len then 0 (length row_feeders)

    all : length (row_feeders ++ feeders_of rows) ≡ length row_feeders + length rows
    all = length-append row_feeders (feeders_of rows) ∙ ap (λ n. length row_feeders + n) (length-map rows (λ row. row.0))

    longer : length (map then (range_with_len 0 (length row_feeders)) ++ rows) ≡ length (row_feeders ++ feeders_of rows)
    longer = length-append (map then (range_with_len 0 (length row_feeders))) rows ∙ ap (λ n. n + length rows) before ∙ sym all

    entry_then : (c r : ℕ) → c < length old → entry_at (row_in new r) c ≡ get_or (shifted_entries (encoded_at old c) ++ column_of rows c) r None
    entry_then c r below = entry-row_in new c r (omega arith) ∙ ap (λ es. get_or es r None) (more c below).entries

    earlier : (r : ℕ) → r < length row_feeders → row_in new r ≡ row_in old r
    earlier r first =
        ext_get_or None (row_in new r) (row_in old r) (length-map new _ ∙ long ∙ sym (length-map old _))
        (λ c below.
        let there : c < length old = omega (arith, length-map new (λ column. get_or (shifted_entries column) r None)) in
        entry_then c r there
        ∙ get_or_append_left (shifted_entries (encoded_at old c)) (column_of rows c) None r (omega (arith, even c there))
        ∙ sym (entry-row_in old c r there))

    later : (j : ℕ) → j < length rows → row_in new (length row_feeders + j) ≡ (row_at rows j).1
    later j within =
        let row_wide : length (row_at rows j).1 ≡ length old = All-get_or (λ row. length row.1 ≡ length old) rows j (0, []) within wide in
        ext_get_or None (row_in new (length row_feeders + j)) (row_at rows j).1 (length-map new _ ∙ long ∙ sym row_wide)
        (λ c below.
        let there : c < length old = omega (arith, length-map new (λ column. get_or (shifted_entries column) (length row_feeders + j) None)) in
        entry_then c (length row_feeders + j) there
        ∙ ap (λ n. get_or (shifted_entries (encoded_at old c) ++ column_of rows c) (n + j) None) (sym (even c there))
        ∙ get_or-append-add (shifted_entries (encoded_at old c)) (column_of rows c) j None
        ∙ get_or-map (λ row. entry_at row.1 c) rows j (0, []) None within)

    at : (r : ℕ) → r < length row_feeders + length rows → (b : Bool) → nat_lt r (length row_feeders) ≡ b
        → get_or (map then (range_with_len 0 (length row_feeders)) ++ rows) r (0, []) ≡ now r
    at r within true is =
        let first : r < length row_feeders = grind (arith, nat_tests) in
        get_or_append_left (map then (range_with_len 0 (length row_feeders))) rows (0, []) r (omega (arith, before, first))
        ∙ get_or-map-range_with_len then 0 (length row_feeders) r r (0, []) first (omega arith)
        ∙ ap₂ pair (sym (get_or_append_left row_feeders (feeders_of rows) 0 r first)) (sym (earlier r first))
    at r within false is =
        let past : length row_feeders ≤ r = grind (arith, nat_tests) in
        let j = r - length row_feeders in
        let is_j : r ≡ length row_feeders + j = omega (arith, past) in
        let here : j < length rows = omega (arith, within, past) in
        ap (λ n. get_or (map then (range_with_len 0 (length row_feeders)) ++ rows) n (0, [])) (is_j ∙ ap (λ n. n + j) (sym before))
        ∙ get_or-append-add (map then (range_with_len 0 (length row_feeders))) rows j (0, [])
        ∙ ap₂ pair
        (sym (get_or-map (λ row. row.0) rows j (0, []) 0 here) ∙ sym (get_or-append-add row_feeders (feeders_of rows) j 0) ∙ ap (λ n. get_or (row_feeders ++ feeders_of rows) n 0) (sym is_j))
        (sym (later j here) ∙ ap (row_in new) (sym is_j))
