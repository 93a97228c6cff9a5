-- What proofs of the crates above cite: rows by their columns, and by their bitmaps.
use Rattle.std.proofs.Common.{◌≡◌, ◌≢◌, ℕ, ◌<◌, Bool, List, [], None, length, map, get_or, sym, ap, ◌∙◌, arith}
use Rattle.std.specs.Prelude.{All, IsTrue}
use Rattle.std.specs.List.{range_with_len}
use Rattle.std.specs.Option.{option_map}
use Rattle.std.proofs.lemmas.List.{ext_get_or, get_or-map, length-map}
use Rattle.std.proofs.lemmas.List.Elements.{All-get_or, All-map, All-weaker}
use Rattle.std.proofs.lemmas.List.FromFn.{get_or-range_with_len, length-range_with_len}
use Rattle.bsi_digits.specs.Offsets.{number_of}
use Rattle.bsi_columns.specs.StoredBitmaps.{form_places}
use Rattle.bsi_columns.proofs.BitmapEntries.{digits_distinguish, same_stored, slices_distinguish, Distinguish}
use Rattle.bsi_schema.specs.declared.form.Form.{Form}
use Rattle.bsi_schema.specs.declared.form.Form.TheVariants.{Slices, Equality, Range}
use Rattle.bsi_schema.specs.Columns.{column_at, entry_at, fits, no_column, size_in, Declared, Entries, IsColumn, IsForm, NamedColumn}
use Rattle.bsi_schema.proofs.Fitting.{fits-at, fits-length}
use Rattle.bsi_shift.specs.Shifted.{shifted_entries, OffsetColumn}
use Rattle.bsi_rows.specs.Rows.{column_of, feeders_of, SourcedRow}
use Rattle.bsi_rows.specs.Table.{AreFitting}
use Rattle.bsi_table.specs.Bitmaps.{bitmaps_of, entries_bitmaps, stored_entry, HaveNoEntries}
use Rattle.bsi_table.specs.Encoded.{sourced_rows, encoded_at, encoded_form, row_in, AreEncoded}
use Rattle.bsi_table.proofs.BitmapRows.{entries_back, size_some, stored_below, Accepted}
use Rattle.bsi_table.proofs.Keeping.{row_in-fits}
use Rattle.bsi_table.proofs.TableRows.{column-sourced_rows, feeders-sourced_rows}

-- ---- the rows that columns keep

module _ (columns : List NamedColumn) (encoded : List OffsetColumn) (row_feeders : List ℕ) (are : AreEncoded columns encoded (length row_feeders)) where
  -- came from these feeders
  pub fed-feeders : feeders_of (sourced_rows row_feeders encoded) ≡ row_feeders
  fed-feeders = feeders-sourced_rows row_feeders encoded

  -- have the columns' entries
  pub fed-column : (c : ℕ) → c < length columns → column_of (sourced_rows row_feeders encoded) c ≡ shifted_entries (encoded_at encoded c)
  fed-column c within = column-sourced_rows row_feeders encoded c (omega (arith, within, are.long)) (are.each c within).rows

  -- and their bitmaps
  pub fed-bitmaps : (c : ℕ) → c < length columns
      → entries_bitmaps (column_at columns c) (column_of (sourced_rows row_feeders encoded) c) ≡ entries_bitmaps (column_at columns c) (shifted_entries (encoded_at encoded c))
  fed-bitmaps c within = ap (entries_bitmaps (column_at columns c)) (fed-column c within)

  -- and fit
  pub fed-fitting : AreFitting columns (sourced_rows row_feeders encoded)
  unfolding sourced_rows
  fed-fitting =
      All-map (λ (row : SourcedRow). IsTrue (fits columns row.1)) (λ (r : ℕ). (get_or row_feeders r 0, row_in encoded r)) (range_with_len 0 (length row_feeders))
      (λ k d within.
      let below : k < length row_feeders = omega (arith, within, length-range_with_len 0 (length row_feeders)) in
      let at : get_or (range_with_len 0 (length row_feeders)) k d ≡ k = get_or-range_with_len 0 (length row_feeders) k d below ∙ omega arith in
      ap (λ r. fits columns (row_in encoded r)) at
      ∙ row_in-fits columns encoded (length row_feeders) are k below)

-- ---- rows are determined by their bitmaps

form_distinguishes : (form : Form) → IsForm form → Distinguish (form_places (encoded_form form)) (size_in form)
form_distinguishes (Slices w) valid = slices_distinguish w
form_distinguishes (Equality bs) valid = digits_distinguish bs valid
form_distinguishes (Range bs) valid = digits_distinguish bs valid

-- entries that a column takes
pub same_entries : (column : NamedColumn) → IsForm column.form → (xs ys : Entries) → All (Accepted column) xs → All (Accepted column) ys → entries_bitmaps column xs ≡ entries_bitmaps column ys → xs ≡ ys
same_entries column valid xs ys accepted_xs accepted_ys same =
    let stored = stored_entry column.offset in
    let some = size_some column.form valid in
    let stored_same : map stored xs ≡ map stored ys =
    same_stored (form_places (encoded_form column.form)) (size_in column.form) (form_distinguishes column.form valid) (map stored xs) (map stored ys) same
    (stored_below column some xs accepted_xs) (stored_below column some ys accepted_ys) in
    sym (entries_back column xs accepted_xs) ∙ ap (map (option_map (number_of column.offset))) stored_same ∙ entries_back column ys accepted_ys

-- a column takes each entry of rows that fit
pub column_accepted : (columns : List NamedColumn) (rows : List SourcedRow) (c : ℕ) → c < length columns → AreFitting columns rows → All (Accepted (column_at columns c)) (column_of rows c)
column_accepted columns rows c within fitting =
    All-map (Accepted (column_at columns c)) (λ (row : SourcedRow). entry_at row.1 c) rows
    (All-weaker (λ (row : SourcedRow). IsTrue (fits columns row.1)) (λ (row : SourcedRow). Accepted (column_at columns c) (entry_at row.1 c)) (λ row fit. fits-at columns row.1 c fit within) rows fitting)

-- rows that fit are determined by their feeders and their bitmaps
module _ (schema : Declared) (each : All IsColumn schema.columns) (xs ys : List SourcedRow) (fitting_xs : AreFitting schema.columns xs) (fitting_ys : AreFitting schema.columns ys)
    (feeders : feeders_of xs ≡ feeders_of ys) (bitmaps : (c : ℕ) → c < length schema.columns → bitmaps_of schema xs c ≡ bitmaps_of schema ys c) where
  no_row : SourcedRow
  no_row = (0, [])

  long : length xs ≡ length ys
  long = sym (length-map xs (λ (row : SourcedRow). row.0)) ∙ ap length feeders ∙ length-map ys (λ (row : SourcedRow). row.0)

  columns_same : (c : ℕ) → c < length schema.columns → column_of xs c ≡ column_of ys c
  columns_same c within =
      let is_column = All-get_or IsColumn schema.columns c no_column within each in
      same_entries (column_at schema.columns c) is_column.form (column_of xs c) (column_of ys c)
      (column_accepted schema.columns xs c within fitting_xs) (column_accepted schema.columns ys c within fitting_ys) (bitmaps c within)

  wide : (rows : List SourcedRow) → AreFitting schema.columns rows → (r : ℕ) → r < length rows → length (get_or rows r no_row).1 ≡ length schema.columns
  wide rows fitting r within = fits-length schema.columns (get_or rows r no_row).1 (All-get_or (λ (row : SourcedRow). IsTrue (fits schema.columns row.1)) rows r no_row within fitting)

  feeder_same : (r : ℕ) → r < length xs → (get_or xs r no_row).0 ≡ (get_or ys r no_row).0
  feeder_same r within =
      sym (get_or-map (λ (row : SourcedRow). row.0) xs r no_row 0 within) ∙ ap (λ fs. get_or fs r 0) feeders ∙ get_or-map (λ (row : SourcedRow). row.0) ys r no_row 0 (omega (arith, within, long))

  entries_same : (r : ℕ) → r < length xs → (get_or xs r no_row).1 ≡ (get_or ys r no_row).1
  entries_same r within =
      let inside : r < length ys = omega (arith, within, long) in
      ext_get_or None (get_or xs r no_row).1 (get_or ys r no_row).1 (wide xs fitting_xs r within ∙ sym (wide ys fitting_ys r inside)) (λ c below.
      let there : c < length schema.columns = omega (arith, below, wide xs fitting_xs r within) in
      sym (get_or-map (λ (row : SourcedRow). entry_at row.1 c) xs r no_row None within) ∙ ap (λ es. get_or es r None) (columns_same c there)
      ∙ get_or-map (λ (row : SourcedRow). entry_at row.1 c) ys r no_row None inside)

  pub same_rows : xs ≡ ys
  same_rows =
      ext_get_or no_row xs ys long (λ r within. (λ i. (feeder_same r within i, entries_same r within i)))
