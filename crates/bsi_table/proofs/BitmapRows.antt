-- Columns and rows, by their bitmaps.
use Rattle.std.proofs.Common.{◌≡◌, ℕ, ℤ, pos, ◌+ℤ◌, ◌-ℤ◌, ◌≤ℤ◌, ◌<ℤ◌, ◌<◌, Bool, List, [], ◌∷◌, Option, Some, None, length, map, get_or, refl, sym, ap, ap₂, ◌∙◌, arith}
use Rattle.std.specs.Prelude.{All, is_some, IsTrue, unsigned_abs}
use Rattle.std.specs.Option.{option_map}
use Rattle.std.proofs.lemmas.Int.{ints}
use Rattle.std.proofs.lemmas.Nat.{pow_pos}
use Rattle.std.proofs.lemmas.List.{length-map}
use Rattle.std.proofs.lemmas.List.Elements.{All-head, All-map, All-tail, All-weaker}
use Rattle.bsi_bits.specs.BitList.{BitList}
use Rattle.bsi_bits.specs.BitLists.{bits_at}
use Rattle.bsi_columns.specs.AnyColumns.{any_entries, AnyForm}
use Rattle.bsi_columns.specs.StoredBitmaps.{bits_each, column_bitmaps, form_places, HaveNoEntriesBelow}
use Rattle.bsi_columns.proofs.FromBitmaps.{read_bits}
use Rattle.bsi_digits.proofs.CallerLemmas.{size_pos}
use Rattle.bsi_digits.specs.Offsets.{number_of}
use Rattle.bsi_digits.specs.Comparisons.{number_or_zero}
use Rattle.bsi_schema.specs.Columns.{is_accepted_by, size_in, Entries, IsForm, NamedColumn}
use Rattle.bsi_schema.specs.declared.form.Form.{Form}
use Rattle.bsi_schema.specs.declared.form.Form.TheVariants.{Slices, Equality, Range}
use Rattle.bsi_schema.proofs.Fitting.{within}
use Rattle.bsi_shift.specs.Shifted.{shifted_entries, OffsetColumn}
use Rattle.bsi_shift.proofs.Shifting.{shifted_entries-is}
use Rattle.bsi_table.specs.Bitmaps.{stored_entry, HaveNoEntries}
use Rattle.bsi_table.specs.Encoded.{encoded_form}

-- a number less the offset, and with it again
less_offset : (offset : ℤ) (n : ℕ) → unsigned_abs ((offset +ℤ pos n) -ℤ offset) ≡ n
less_offset offset n = omega (arith, ints)

with_offset : (offset x : ℤ) → offset ≤ℤ x → offset +ℤ pos (unsigned_abs (x -ℤ offset)) ≡ x
with_offset offset x from = omega (arith, ints)

below_size : (offset x : ℤ) (size : ℕ) → offset ≤ℤ x → x <ℤ (offset +ℤ pos size) → unsigned_abs (x -ℤ offset) < size
below_size offset x size from below = omega (arith, ints)

-- what is stored of what stored entries stand for
stored_back : (offset : ℤ) (stored : List (Option ℕ)) → map (stored_entry offset) (map (option_map (number_of offset)) stored) ≡ stored
stored_back offset [] = refl
stored_back offset (None ∷ stored) = ap (λ es. None ∷ es) (stored_back offset stored)
stored_back offset (Some n ∷ stored) = ap₂ (λ (m : ℕ) es. Some m ∷ es) (less_offset offset n) (stored_back offset stored)

pub stored_of_shifted : (c : OffsetColumn) (offset : ℤ) → c.offset ≡ offset → map (stored_entry offset) (shifted_entries c) ≡ any_entries c.stored
stored_of_shifted c offset is =
    ap (map (stored_entry offset)) (shifted_entries-is c ∙ ap (λ o. map (option_map (number_of o)) (any_entries c.stored)) is) ∙ stored_back offset (any_entries c.stored)

-- entries that a column takes
module _ (column : NamedColumn) where
  abbrev pub Accepted : Option ℤ → Type 0
  Accepted entry = IsTrue (is_accepted_by column entry)

  -- are stored below its size
  pub stored_below : 0 < size_in column.form → (entries : Entries) → All Accepted entries → All (λ e. number_or_zero e < size_in column.form) (map (stored_entry column.offset) entries)
  stored_below some entries accepted = All-map (λ e. number_or_zero e < size_in column.form) (stored_entry column.offset) entries (All-weaker Accepted (λ entry. number_or_zero (stored_entry column.offset entry) < size_in column.form) each entries accepted)
    where
      each : (entry : Option ℤ) → Accepted entry → number_or_zero (stored_entry column.offset entry) < size_in column.form
      each None accepted = some
      each (Some x) accepted =
          let range = within column.offset x (column.offset +ℤ pos (size_in column.form)) accepted in
          below_size column.offset x (size_in column.form) range.0 range.1

  -- and are what is stored with the offset again
  entry_back : (entry : Option ℤ) → Accepted entry → option_map (number_of column.offset) (stored_entry column.offset entry) ≡ entry
  entry_back None accepted = refl
  entry_back (Some x) accepted =
      let range = within column.offset x (column.offset +ℤ pos (size_in column.form)) accepted in
      ap Some (with_offset column.offset x range.0)

  pub entries_back : (entries : Entries) → All Accepted entries → map (option_map (number_of column.offset)) (map (stored_entry column.offset) entries) ≡ entries
  entries_back [] accepted = refl
  entries_back (entry ∷ entries) accepted = ap₂ ◌∷◌ (entry_back entry (All-head Accepted entry entries accepted)) (entries_back entries (All-tail Accepted entry entries accepted))

  -- where no stored entries have the bitmaps, no entries have
  pub none_accepted : 0 < size_in column.form → (bitmaps : List (List Bool)) → HaveNoEntriesBelow (form_places (encoded_form column.form)) (size_in column.form) bitmaps → HaveNoEntries column bitmaps
  none_accepted some bitmaps none = λ entries accepted same. none (map (stored_entry column.offset) entries) (stored_below some entries accepted) same

-- a form tells numbers apart
pub size_some : (form : Form) → IsForm form → 0 < size_in form
size_some (Slices w) valid = pow_pos w
size_some (Equality bs) valid = let some = size_pos valid in omega (arith, some)
size_some (Range bs) valid = let some = size_pos valid in omega (arith, some)

-- a column that is made of its bitmaps has a row for each bit
pub rows_of_bitmaps : (form : AnyForm) (entries : List (Option ℕ)) (bitmaps : List BitList) → column_bitmaps form entries ≡ bits_each bitmaps → length entries ≡ length (bits_at bitmaps 0)
rows_of_bitmaps form entries bitmaps same =
    sym (length-map entries is_some) ∙ ap (λ rows. length (get_or rows 0 [])) same ∙ ap length (read_bits bitmaps 0)
