-- The fields of a record by their places, and a header's names.
use Rattle.std.proofs.Common.{◌≡◌, ℕ, ◌+◌, ◌<◌, ◌≤◌, Bool, true, false, cond, not, if◌then◌else◌, ◌&&◌, List, [], ◌∷◌, length, take, drop, get_or, Option, Some, None, option_and_then, nat_eq, refl, sym, ap, ap₂, ◌∙◌, arith, below_more, ℤ, ◌++◌}
use Rattle.std.specs.List.{list_all}
use Rattle.std.specs.Str.{bytes_eq}
use Rattle.std.proofs.lemmas.Bool.Decides.{Decides-eqb}
use Rattle.std.proofs.lemmas.List.{at_drop_more, get_or-map, get_or_append_left, length-append, take_all}
use Rattle.std.proofs.lemmas.Option.{none-some, same_Some}
use Rattle.std.proofs.Math.Seq.{get_or-append_seam}
use Rattle.std.proofs.lemmas.List.Folds.{list_all_more, list_all_at}
use Rattle.std.proofs.lemmas.List.Sums.{prefix_len-drop_all}
use Rattle.bsi_schema.specs.Columns.{column_at, entry_at, fits, is_accepted_by, Declared, NamedColumn}
use Rattle.bsi_rows.specs.Rows.{Entries}
use Rattle.bsi_schema.proofs.Fitting.{fits-each, misfit-at}
use Rattle.bsi_rows.specs.Fields.{Field}
use Rattle.bsi_syntax.specs.Numbers.{value_in, values_in}
use Rattle.bsi_input.specs.Formats.{fields_at, fitting}
use Rattle.bsi_input.specs.RowFiles.{field_index}
use Rattle.bsi_syntax.proofs.Values.{behind, values_done, values_next, values_stop}

-- a test of each element, one after another, that fails at one
pub all_stop : {X : Type 0} (p : X → Bool) (xs : List X) (i : ℕ) (d : X) → i < length xs → p (get_or xs i d) ≡ false → false ≡ list_all p xs
all_stop p xs i d within fails = sym (list_all_at p xs i d within fails)

-- ---- the fields before a name

pub place_next : (fields : List Field) (i : ℕ) (name : Field) → i < length fields → bytes_eq (get_or fields i []) name ≡ false
    → field_index fields name ≡ i + field_index (drop i fields) name → field_index fields name ≡ i + 1 + field_index (drop (i + 1) fields) name
place_next fields i name within other before =
    let rest = field_index (drop (i + 1) fields) name in
    let step : field_index (drop i fields) name ≡ 1 + rest =
    at_drop_more (λ fs. field_index fs name) fields i [] within ∙ ap (λ b. cond (not b) (1 + rest) 0) other in
    omega (arith, before, step)

pub place_here : (fields : List Field) (i : ℕ) (name : Field) → i < length fields → bytes_eq (get_or fields i []) name ≡ true
    → field_index fields name ≡ i + field_index (drop i fields) name → i ≡ field_index fields name
place_here fields i name within same before =
    let step : field_index (drop i fields) name ≡ 0 =
    at_drop_more (λ fs. field_index fs name) fields i [] within ∙ ap (λ b. cond (not b) (1 + field_index (drop (i + 1) fields) name) 0) same in
    omega (arith, before, step)

pub place_nowhere : (fields : List Field) (i : ℕ) (name : Field) → length fields ≡ i
    → field_index fields name ≡ i + field_index (drop i fields) name → i ≡ field_index fields name
place_nowhere fields i name all before =
    let step : field_index (drop i fields) name ≡ 0 = prefix_len-drop_all (λ field. not (bytes_eq field name)) fields i (omega arith) in
    omega (arith, before, step)

-- another count than one
pub not_one : (n m : ℕ) → n ≡ m → (n ≡ 1 → ⊥) → nat_eq m 1 ≡ false
not_one n m same other = by (nat_eq m 1) refl
  where
    by : (b : Bool) → nat_eq m 1 ≡ b → nat_eq m 1 ≡ false
    by false e = e
    by true e = absurd (other (same ∙ (Decides-eqb m 1).0 e))

-- ---- entries that their columns take

-- the entry that a column takes
abbrev pub taken_by : NamedColumn → Option ℤ → Option (Option ℤ)
taken_by column value = if is_accepted_by column value then Some value else None

pub taken_value : (column : NamedColumn) (found : Option (Option ℤ)) (entry : Option ℤ) → option_and_then (taken_by column) found ≡ Some entry
    → (found ≡ Some entry) × (is_accepted_by column entry ≡ true)
taken_value column None entry is = absurd (none-some entry is)
taken_value column (Some value) entry is = by (is_accepted_by column value) refl is
  where
    by : (b : Bool) → is_accepted_by column value ≡ b → (if b then Some value else None) ≡ Some entry → (Some value ≡ Some entry) × (is_accepted_by column entry ≡ true)
    by true read_so_far same = (same, ap (is_accepted_by column) (sym (same_Some value entry same)) ∙ read_so_far)
    by false read_so_far same = absurd (none-some entry same)

pub taken_not : (column : NamedColumn) (value : Option ℤ) → taken_by column value ≡ None → is_accepted_by column value ≡ false
taken_not column value is = by (is_accepted_by column value) is
  where
    by : (b : Bool) → (if b then Some value else None) ≡ None → b ≡ false
    by true same = absurd (none-some value (sym same))
    by false same = refl

-- the element between two lists
at_seam : (entries more : Entries) (entry : Option ℤ) (i : ℕ) → length entries ≡ i → entry_at ((entries ++ entry ∷ []) ++ more) i ≡ entry
at_seam entries more entry i long =
    get_or_append_left (entries ++ entry ∷ []) more None i (omega (arith, length-append entries (entry ∷ []), long))
    ∙ ap (λ n. entry_at (entries ++ entry ∷ []) n) (sym long) ∙ get_or-append_seam entries entry [] None

-- a row with an entry that its column does not take does not fit
pub misfit : (schema : Declared) (entries : Entries) (entry : Option ℤ) (i : ℕ) (later : Option Entries) → length entries ≡ i → i < length schema.columns
    → is_accepted_by (column_at schema.columns i) entry ≡ false → None ≡ fitting schema (behind (entries ++ entry ∷ []) later)
misfit schema entries entry i None long within refused = refl
misfit schema entries entry i (Some more) long within refused =
    let row = (entries ++ entry ∷ []) ++ more in
    ap (λ b. if b then Some row else None)
    (misfit-at schema.columns row i within (ap (is_accepted_by (column_at schema.columns i)) (at_seam entries more entry i long) ∙ refused))

-- ---- the fields in the order of the columns, read as entries

-- the field of column i
pub ordered_field : (indexes : List ℕ) (fields : List Field) (i : ℕ) → i < length indexes → get_or fields (get_or indexes i 0) [] ≡ get_or (fields_at indexes fields) i []
ordered_field indexes fields i within = sym (get_or-map (λ index. get_or fields index []) indexes i 0 [] within)

-- so many of the fields were read as entries that their columns take
pub record IsRead (schema : Declared) (in_row : List Field) (i : ℕ) (entries : Entries) : Type 0 where
  pub so_far : values_in schema.signed in_row ≡ behind entries (values_in schema.signed (drop i in_row))
  pub long : length entries ≡ i
  pub read_so_far : (k : ℕ) → k < i → is_accepted_by (column_at schema.columns k) (entry_at entries k) ≡ true

module _ (schema : Declared) (in_row : List Field) (i : ℕ) (entries : Entries) (long_row : length in_row ≡ length schema.columns) (read : IsRead schema in_row i entries) where
  abbrev found : Option (Option ℤ)
  found = value_in schema.signed (get_or in_row i [])

  -- one more
  pub entry_read : (entry : Option ℤ) → i < length schema.columns → option_and_then (taken_by (column_at schema.columns i)) found ≡ Some entry
      → IsRead schema in_row (i + 1) (entries ++ entry ∷ [])
  entry_read entry within this =
      let is = taken_value (column_at schema.columns i) found entry this in
      record {
        so_far = values_next schema.signed (values_in schema.signed in_row) in_row i entries read.so_far entry (omega (arith, within, long_row)) is.0;
        long = length-append {A = Option ℤ} entries (entry ∷ []) ∙ ap (λ n. n + 1) read.long;
        read_so_far = below_more _ _
            (λ k below. ap (is_accepted_by (column_at schema.columns k)) (get_or_append_left entries (entry ∷ []) None k (omega (arith, below, read.long))) ∙ read.read_so_far k below)
            (ap (is_accepted_by (column_at schema.columns i))
            (ap (λ n. entry_at (entries ++ entry ∷ []) n) (sym read.long) ∙ get_or-append_seam entries entry [] None)
            ∙ is.1);
      }

  -- one that is no value, or that its column does not take
  pub entry_stop : i < length schema.columns → option_and_then (taken_by (column_at schema.columns i)) found ≡ None
      → None ≡ fitting schema (values_in schema.signed in_row)
  entry_stop within this = by found refl this
    where
      there : i < length in_row
      there = omega (arith, within, long_row)

      by : (o : Option (Option ℤ)) → found ≡ o → option_and_then (taken_by (column_at schema.columns i)) o ≡ None → None ≡ fitting schema (values_in schema.signed in_row)
      by None is none = ap (fitting schema) (values_stop schema.signed (values_in schema.signed in_row) in_row i entries read.so_far there is)
      by (Some value) is none =
          misfit schema entries value i _ read.long within (taken_not (column_at schema.columns i) value none)
          ∙ sym (ap (fitting schema) (values_next schema.signed (values_in schema.signed in_row) in_row i entries read.so_far value there is))

  -- all
  pub entries_fit : i ≡ length schema.columns → fits schema.columns entries ≡ true
  entries_fit all = fits-each schema.columns entries (read.long ∙ all) (λ k within. read.read_so_far k (omega (arith, within, all)))

  pub entries_done : i ≡ length schema.columns → Some entries ≡ fitting schema (values_in schema.signed in_row)
  entries_done all =
      ap (λ b. if b then Some entries else None) (sym (entries_fit all))
      ∙ ap (fitting schema) (values_done schema.signed (values_in schema.signed in_row) in_row i entries read.so_far (omega (arith, all, long_row)))
