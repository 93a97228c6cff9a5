-- The rows of columns, by column.
use Rattle.std.proofs.Common.{◌≡◌, ℕ, ◌+◌, ◌/◌, ◌<◌, ◌≤◌, nat_eq, nat_le, zero, suc, true, List, [], ◌∷◌, All, Option, Some, None, ℤ, pos, length, map, replicate, take, drop, get_or, refl, sym, ap, ap₂, subst, ◌∙◌, arith}
use Rattle.std.specs.Prelude.{◌||◌, if◌then◌else◌, IsTrue}
use Rattle.std.specs.List.{list_all, range_with_len}
use Rattle.std.proofs.lemmas.Bool.{and_parts, eqb-true}
use Rattle.std.proofs.lemmas.List.{ext_get_or, get_or-drop, get_or-map, get_or-take, length-drop, length-map, length-replicate, length-take-le}
use Rattle.std.proofs.lemmas.List.Elements.{All-from_get_or, All-replicate}
use Rattle.std.proofs.lemmas.List.FromFn.{get_or-map-range_with_len, length-map-range_with_len}
use Rattle.std.proofs.lemmas.List.Sums.{AllPass-from_list_all}
use Rattle.bsi_digits.specs.Blocks.{value_entries, value_entry}
use Rattle.bsi_schema.specs.Columns.{column_at, fits, is_accepted_by, NamedColumn}
use Rattle.bsi_schema.proofs.Fitting.{fits-at}
use Rattle.bsi_rows.specs.Rows.{column_of, entry_at, feeders_of, Entries, SourcedRow}
use Rattle.bsi_rows.specs.Table.{AreFitting}
use Rattle.bsi_rows.proofs.BlockRows.{map_twice}
use Rattle.bsi_ffi.specs.Columns.{are_columns, has_rows, input_entry, input_rows, row_count, row_of, AreAccepted, IsNotNullWord}
use Rattle.bsi_ffi.specs.declared.columns.ColumnInput.{ColumnInput}

-- rows of nulls are each of their feeder
pub feeders-replicate : (n feeder : ℕ) (row : Entries) → feeders_of (replicate n (feeder, row)) ≡ replicate n feeder
feeders-replicate zero feeder row = refl
feeders-replicate (suc n) feeder row = ap (λ feeders. feeder ∷ feeders) (feeders-replicate n feeder row)

-- and fit
nulls_fit : (declared : List NamedColumn) → fits declared (replicate (length declared) None) ≡ true
nulls_fit [] = refl
nulls_fit (column ∷ declared) = nulls_fit declared

pub null_rows-fitting : (declared : List NamedColumn) (n feeder : ℕ) → AreFitting declared (replicate n (feeder, replicate (length declared) None))
null_rows-fitting declared n feeder = All-replicate (λ row. IsTrue (fits declared row.1)) n (feeder, replicate (length declared) None) (nulls_fit declared)

-- one value for each number
map_constant : (x a n : ℕ) → map (λ r. x) (range_with_len a n) ≡ replicate n x
map_constant x a zero = refl
map_constant x a (suc n) = ap (λ xs. x ∷ xs) (map_constant x (a + 1) n)

-- two functions that agree from two numbers on
map_ranges : {X : Type 0} (d : X) (f g : ℕ → X) (a b n : ℕ) → ((r : ℕ) → r < n → f (a + r) ≡ g (b + r)) → map f (range_with_len a n) ≡ map g (range_with_len b n)
map_ranges d f g a b n agree =
    let long = length-map-range_with_len f a n in
    ext_get_or d (map f (range_with_len a n)) (map g (range_with_len b n)) (long ∙ sym (length-map-range_with_len g b n))
    (λ r below.
    let near : r < n = omega (arith, below, long) in
    get_or-map-range_with_len f a n r (a + r) d near refl ∙ agree r near ∙ sym (get_or-map-range_with_len g b n r (b + r) d near refl))

-- the rows of columns are each of the feeder
pub feeders-input_rows : (feeder : ℕ) (columns : List ColumnInput) (from n : ℕ) → feeders_of (input_rows feeder columns from n) ≡ replicate n feeder
unfolding input_rows
feeders-input_rows feeder columns from n =
    map_twice (λ row. row.0) (λ r. (feeder, row_of columns r)) (range_with_len from n) ∙ map_constant feeder from n

-- so many entries of a column, from one on
abbrev entries_from : ColumnInput → ℕ → ℕ → List (Option ℤ)
entries_from column from n = map (λ r. input_entry r column) (range_with_len from n)

module _ (columns : List ColumnInput) (c : ℕ) (d : ColumnInput) (within : c < length columns) (from n : ℕ) where
  entry_at-row_of : (r : ℕ) → entry_at (row_of columns r) c ≡ input_entry r (get_or columns c d)
  entry_at-row_of r = get_or-map (input_entry r) columns c d None within

  -- are a column of the rows
  column-input_rows : (feeder : ℕ) → column_of (input_rows feeder columns from n) c ≡ entries_from (get_or columns c d) from n
  unfolding input_rows
  column-input_rows feeder =
      map_twice (λ row. entry_at row.1 c) (λ r. (feeder, row_of columns r)) (range_with_len from n)
      ∙ map_ranges None (λ r. entry_at (row_of columns r) c) (λ r. input_entry r (get_or columns c d)) from from n (λ r below. entry_at-row_of (from + r))

  -- and are accepted where the rows fit
  entries_accepted : (declared : List NamedColumn) (rows : ℕ) → c < length declared → AreAccepted declared columns rows → from + n ≤ rows
      → All (λ entry. is_accepted_by (column_at declared c) entry ≡ true) (entries_from (get_or columns c d) from n)
  entries_accepted declared rows there accepted few =
      let entry = λ (r : ℕ). input_entry r (get_or columns c d) in
      All-from_get_or (λ entry. is_accepted_by (column_at declared c) entry ≡ true) (entries_from (get_or columns c d) from n) None
      (λ r below.
      let near : r < n = omega (arith, below, length-map-range_with_len entry from n) in
      ap (is_accepted_by (column_at declared c)) (get_or-map-range_with_len entry from n r (from + r) None near refl ∙ sym (entry_at-row_of (from + r)))
      ∙ fits-at declared (row_of columns (from + r)) c (accepted (from + r) (omega (arith, near, few))) there)

-- columns that are even are as many as asked for
module _ (count : ℕ) (columns : List ColumnInput) (even : are_columns count columns ≡ true) where
  parts : (nat_eq (length columns) count ≡ true) × (list_all (has_rows (row_count columns)) columns ≡ true)
  parts = and_parts (nat_eq (length columns) count) (list_all (has_rows (row_count columns)) columns) even

  pub columns_many : length columns ≡ count
  columns_many = eqb-true (length columns) count parts.0

  -- and each has a value for each row
  values_many : (c : ℕ) (d : ColumnInput) → c < length columns → length (get_or columns c d).values.now ≡ row_count columns
  values_many c d within =
      let rows = row_count columns in
      let column = get_or columns c d in
      eqb-true (length column.values.now) rows
      (and_parts (nat_eq (length column.values.now) rows) (nat_eq (length column.valid.now) 0 || nat_le ((rows + 7) / 8) (length column.valid.now))
      (AllPass-from_list_all (has_rows rows) columns parts.1 c d within)).0

-- so many values from one on, with the word of their bitmap, are the entries
module _ (column : ColumnInput) (from n m word : ℕ) (many : m ≡ n) (within : from + n ≤ length column.values.now) (is : IsNotNullWord column.valid.now from n word) where
  abbrev values_from : List ℤ
  values_from = take m (drop from column.values.now)

  values_from-long : length values_from ≡ n
  values_from-long = length-take-le m (drop from column.values.now) (omega (arith, many, within, length-drop from column.values.now)) ∙ many

  values_from-entries : value_entries values_from word ≡ entries_from column from n
  unfolding value_entries
  values_from-entries =
      ap (λ k. map (value_entry values_from word) (range_with_len 0 k)) values_from-long
      ∙ map_ranges None (value_entry values_from word) (λ r. input_entry r column) 0 from n
      (λ r near.
      let zero_first : 0 + r ≡ r = omega arith in
      ap (value_entry values_from word) zero_first
      ∙ ap₂ (λ there (x : ℤ). if there then Some x else None) (is.there r near)
      (get_or-take m (drop from column.values.now) r (pos 0) (omega (arith, near, many)) ∙ get_or-drop from column.values.now r (pos 0)))

-- a column that is written
module _ (declared : List NamedColumn) (columns : List ColumnInput) (even : are_columns (length declared) columns ≡ true) (c : ℕ) (d : ColumnInput) (within : c < length columns)
    (feeder from n m word : ℕ) (many : m ≡ n) (few : from + n ≤ row_count columns) (is : IsNotNullWord (get_or columns c d).valid.now from n word) where
  values_few : from + n ≤ length (get_or columns c d).values.now
  values_few = omega (arith, few, values_many (length declared) columns even c d within)

  -- has a value for each row
  pub written-long : (rows : List SourcedRow) → feeders_of rows ≡ replicate n feeder → length (take m (drop from (get_or columns c d).values.now)) ≡ length rows
  written-long rows fed =
      values_from-long (get_or columns c d) from n m word many values_few is ∙ sym (sym (length-map rows (λ row. row.0)) ∙ ap length fed ∙ length-replicate n feeder)

  -- is that of the rows
  pub written-column : value_entries (take m (drop from (get_or columns c d).values.now)) word ≡ column_of (input_rows feeder columns from n) c
  written-column = values_from-entries (get_or columns c d) from n m word many values_few is ∙ sym (column-input_rows columns c d within from n feeder)

  -- and is accepted
  pub written-accepted : (others : List NamedColumn) → others ≡ declared → AreAccepted declared columns (row_count columns)
      → All (λ entry. is_accepted_by (column_at others c) entry ≡ true) (value_entries (take m (drop from (get_or columns c d).values.now)) word)
  written-accepted others same accepted =
      subst (λ cs. All (λ entry. is_accepted_by (column_at cs c) entry ≡ true) (value_entries (take m (drop from (get_or columns c d).values.now)) word)) (sym same)
      (subst (All (λ entry. is_accepted_by (column_at declared c) entry ≡ true)) (sym (values_from-entries (get_or columns c d) from n m word many values_few is))
      (entries_accepted columns c d within from n declared (row_count columns) (omega (arith, within, columns_many (length declared) columns even)) accepted few))
