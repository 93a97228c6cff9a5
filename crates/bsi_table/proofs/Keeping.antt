-- What the columns of a table keep, through growth, appends and copies.
use Rattle.std.proofs.Common.{◌≡◌, ℕ, ◌+◌, ◌<◌, true, ◌&&◌, List, [], ◌∷◌, ◌++◌, All, Option, Some, None, length, map, ℤ, pos, ◌+ℤ◌, ◌≤ℤ◌, ◌<ℤ◌, refl, ap, sym, subst, ◌∙◌, arith}
use Rattle.std.specs.Option.{option_map}
use Rattle.std.specs.Prelude.{int_le, int_lt, slice_index_or, IsTrue, OnErr, Result, Ok, Err}
use Rattle.std.proofs.lemmas.Int.{ints}
use Rattle.std.proofs.lemmas.List.{length-append, length-map}
use Rattle.std.proofs.lemmas.List.Elements.{All-append, All-cons, All-get_or, All-map, All-nil, All-weaker}
use Rattle.bsi_digits.specs.Offsets.{number_of, IsInRange}
use Rattle.bsi_columns.specs.declared.any.AnyColumn.{AnyColumn}
use Rattle.bsi_columns.specs.AnyColumns.{any_entries, any_form, any_size, size_in_form}
use Rattle.bsi_origins.specs.Origins.{OriginList}
use Rattle.bsi_shift.specs.Shifted.{shifted_entries, shifted_size, IsAlike, OffsetColumn}
use Rattle.bsi_schema.specs.declared.form.Form.{Form}
use Rattle.bsi_schema.specs.declared.form.Form.TheVariants.{Slices, Equality, Range}
use Rattle.bsi_schema.specs.Columns.{column_at, fits, is_accepted_by, size_in, NamedColumn}
use Rattle.bsi_rows.specs.Rows.{column_of, entry_at, Entries, SourcedRow}
use Rattle.bsi_table.specs.Encoded.{encoded_at, encoded_form, row_in, AreInRange, AreEncoded, AreI64, HasMore, HaveMore, IsInForm, IsSameColumn, IsTable, Encodes, AcceptsRow}
use Rattle.bsi_rows.specs.Table.{AreFitting}
use Rattle.bsi_schema.proofs.Fitting.{fits-at, fits-each, fits-length, accepted_small, within}
use Rattle.bsi_table.proofs.TableRows.{entry-row_in}

-- what holds anyway holds after a refusal
pub on_err : {T E : Type 0} {P : Type 0} (r : Result T E) → P → OnErr r P
on_err (Ok x) p = tt
on_err (Err e) p = p

-- what holds of one holds of each of it alone
pub All-one : {X : Type 0} (P : X → Type 0) (x : X) → P x → All P (x ∷ [])
All-one P x holds = All-cons P x [] holds (All-nil P)

-- a column of nothing has no rows
pub shifted_nothing : (c : OffsetColumn) (stored : AnyColumn) → c.stored ≡ stored → any_entries stored ≡ [] → shifted_entries c ≡ []
unfolding shifted_entries
shifted_nothing c stored is nothing = ap (λ es. map (option_map (number_of c.offset)) es) (ap any_entries is ∙ nothing)

-- a form has the size of the form that a column of it is kept in
pub size-encoded_form : (form : Form) → size_in_form (encoded_form form) ≡ size_in form
size-encoded_form (Slices w) = refl
size-encoded_form (Equality bs) = refl
size-encoded_form (Range bs) = refl

-- a column has the size of its form
pub size-IsInForm : (form : Form) (stored : AnyColumn) → IsInForm form stored → any_size stored ≡ size_in form
size-IsInForm form stored encoded = ap size_in_form encoded ∙ size-encoded_form form

both_so : (low x high : ℤ) → low ≤ℤ x → x <ℤ high → int_le low x && int_lt x high ≡ true
both_so low x high above below = grind (arith, ints)

module _ (column : NamedColumn) (old : OffsetColumn) (n : ℕ) (encodes : Encodes column old n) where
  -- a column of the same form and offset takes the same numbers
  in_range_of : (new : OffsetColumn) → any_form new.stored ≡ any_form old.stored → new.offset ≡ old.offset → (entries : Entries)
      → shifted_entries new ≡ entries → All (IsInRange old.offset (shifted_size old)) entries → All (IsInRange new.offset (shifted_size new)) (shifted_entries new)
  in_range_of new form offset entries are all =
      let size : shifted_size new ≡ shifted_size old = ap size_in_form form in
      subst (All (IsInRange new.offset (shifted_size new))) (sym are)
      (subst (λ o. All (IsInRange o (shifted_size new)) entries) (sym offset) (subst (λ s. All (IsInRange old.offset s) entries) (sym size) all))

  -- the same entries
  pub encodes_same : (new : OffsetColumn) → IsSameColumn old new → Encodes column new n
  encodes_same new same = record {
    form = same.alike.form ∙ encodes.form;
    offset = same.alike.offset ∙ encodes.offset;
    rows = ap length same.entries ∙ encodes.rows;
    low = encodes.low;
    high = encodes.high;
    range = in_range_of new same.alike.form same.alike.offset (shifted_entries old) same.entries encodes.range;
  }

  -- no entry
  pub encodes_none : (new : OffsetColumn) → IsAlike old new → shifted_entries new ≡ [] → Encodes column new 0
  encodes_none new alike none = record {
    form = alike.form ∙ encodes.form;
    offset = alike.offset ∙ encodes.offset;
    rows = ap length none;
    low = encodes.low;
    high = encodes.high;
    range = in_range_of new alike.form alike.offset [] none (All-nil (IsInRange old.offset (shifted_size old)));
  }

  -- more entries
  pub encodes_more : (new : OffsetColumn) (added : Entries) → All (IsInRange old.offset (shifted_size old)) added → HasMore old new added → Encodes column new (n + length added)
  encodes_more new added accepted more = record {
    form = more.alike.form ∙ encodes.form;
    offset = more.alike.offset ∙ encodes.offset;
    rows = ap length more.entries ∙ omega (arith, length-append (shifted_entries old) added, encodes.rows);
    low = encodes.low;
    high = encodes.high;
    range = in_range_of new more.alike.form more.alike.offset (shifted_entries old ++ added) more.entries
        (All-append (IsInRange old.offset (shifted_size old)) (shifted_entries old) added encodes.range accepted);
  }

  -- an entry that the column takes is in range
  pub accepted_in_range : (entry : Option ℤ) → is_accepted_by column entry ≡ true → IsInRange old.offset (shifted_size old) entry
  accepted_in_range None accepted = tt
  accepted_in_range (Some x) accepted =
      subst (λ offset. IsInRange offset (shifted_size old) (Some x)) (sym encodes.offset)
      (subst (λ size. IsInRange column.offset size (Some x)) (sym (size-IsInForm column.form old.stored encodes.form))
      (within column.offset x (column.offset +ℤ pos (size_in column.form)) accepted))

  -- the column takes each entry that it has
  pub accepted_at : (r : ℕ) → r < n → is_accepted_by column (slice_index_or (shifted_entries old) r None) ≡ true
  accepted_at r below = by (slice_index_or (shifted_entries old) r None) (All-get_or (IsInRange old.offset (shifted_size old)) (shifted_entries old) r None (omega (arith, encodes.rows)) encodes.range)
    where
      by : (entry : Option ℤ) → IsInRange old.offset (shifted_size old) entry → is_accepted_by column entry ≡ true
      by None range = refl
      by (Some x) range =
          let here : IsInRange column.offset (size_in column.form) (Some x) =
          subst (λ offset. IsInRange offset (size_in column.form) (Some x)) encodes.offset
          (subst (λ size. IsInRange old.offset size (Some x)) (size-IsInForm column.form old.stored encodes.form) range) in
          both_so column.offset x (column.offset +ℤ pos (size_in column.form)) here.0 here.1

module _ (columns : List NamedColumn) (old : List OffsetColumn) (n : ℕ) (encoded : AreEncoded columns old n) (new : List OffsetColumn) (long : length new ≡ length old) where
  pub are_encoded_same : ((k : ℕ) → k < length old → IsSameColumn (encoded_at old k) (encoded_at new k)) → AreEncoded columns new n
  are_encoded_same same = record {
    long = long ∙ encoded.long;
    each = λ c within. encodes_same (column_at columns c) (encoded_at old c) n (encoded.each c within) (encoded_at new c) (same c (omega (arith, encoded.long)));
  }

  pub are_encoded_more : (rows : List SourcedRow) → All (λ row. AreInRange old row.1) rows → HaveMore old new rows → AreEncoded columns new (n + length rows)
  are_encoded_more rows accepted more = record {
    long = long ∙ encoded.long;
    each = λ c within.
        let there : c < length old = omega (arith, encoded.long) in
        let Accepted : Option ℤ → Type 0 = IsInRange (encoded_at old c).offset (shifted_size (encoded_at old c)) in
        let each_accepted : All Accepted (column_of rows c) =
        All-map Accepted (λ row. entry_at row.1 c) rows (All-weaker (λ row. AreInRange old row.1) (λ row. Accepted (entry_at row.1 c)) (λ row range. range c there) rows accepted) in
        subst (λ more. Encodes (column_at columns c) (encoded_at new c) (n + more)) (length-map rows (λ row. entry_at row.1 c))
        (encodes_more (column_at columns c) (encoded_at old c) n (encoded.each c within) (encoded_at new c) (column_of rows c) each_accepted (more c there));
  }

module _ (columns : List NamedColumn) (encoded : List OffsetColumn) (n : ℕ) (are : AreEncoded columns encoded n) where
  module _ (row : Entries) (fitting : fits columns row ≡ true) where
    -- each column takes its entry of a row that fits
    pub row_in_range : AreInRange encoded row
    row_in_range k within =
        let there : k < length columns = omega (arith, within, are.long) in
        accepted_in_range (column_at columns k) (encoded_at encoded k) n (are.each k there) (entry_at row k) (fits-at columns row k fitting there)

    -- which is a null or a number of 64 bits
    pub row_small : AreI64 encoded row
    row_small k within =
        let there : k < length columns = omega (arith, within, are.long) in
        let encodes = are.each k there in
        accepted_small (column_at columns k) encodes.low encodes.high (entry_at row k) (fits-at columns row k fitting there)

    -- the columns take the row
    pub row_accepted : AcceptsRow encoded row
    row_accepted = record { wide = fits-length columns row fitting ∙ sym are.long; range = row_in_range; small = row_small }

  -- and rows that fit
  pub rows_accepted : (rows : List SourcedRow) → AreFitting columns rows → All (λ row. AcceptsRow encoded row.1) rows
  rows_accepted rows fitting = All-weaker (λ row. IsTrue (fits columns row.1)) (λ row. AcceptsRow encoded row.1) (λ row fit. row_accepted row.1 fit) rows fitting

  -- each row that is kept fits
  pub row_in-fits : (r : ℕ) → r < n → fits columns (row_in encoded r) ≡ true
  row_in-fits r below =
      fits-each columns (row_in encoded r) (length-map encoded _ ∙ are.long)
      (λ c within.
      ap (is_accepted_by (column_at columns c)) (entry-row_in encoded c r (omega (arith, within, are.long)))
      ∙ accepted_at (column_at columns c) (encoded_at encoded c) n (are.each c within) r below)

-- a table whose columns and origins are the same
pub is_table_same : (columns : List NamedColumn) (limit : ℕ) (old new : OriginList) (encoded same : List OffsetColumn) → IsTable columns old.feeders limit old.rows encoded
    → length same ≡ length encoded → ((k : ℕ) → k < length encoded → IsSameColumn (encoded_at encoded k) (encoded_at same k)) → new.rows ≡ old.rows → new.feeders ≡ old.feeders
    → IsTable columns new.feeders limit new.rows same
is_table_same columns limit old new encoded same is long each rows feeders =
    let table : IsTable columns old.feeders limit old.rows same = record {
      columns_are = are_encoded_same columns encoded (length old.rows) is.columns_are same long each;
      some = is.some;
      few = is.few;
      from = is.from;
      within = is.within;
      least = is.least;
      small = is.small;
    } in
    subst (λ n. IsTable columns n limit new.rows same) (sym feeders) (subst (λ xs. IsTable columns old.feeders limit xs same) (sym rows) table)
