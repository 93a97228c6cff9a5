-- The entries that a stored column and an offset stand for.
use Rattle.std.proofs.Common.{◌≡◌, ℕ, ℤ, pos, ◌+ℤ◌, ◌≤ℤ◌, ◌<ℤ◌, ◌<◌, ◌≤◌, ◌^◌, Bool, true, false, List, [], ◌∷◌, ◌++◌, Option, Some, None, length, get_or, map, is_some, is_none, subst, sym, ap, ap₂, ◌∙◌, refl, arith}
use Rattle.std.specs.Prelude.{All, IfSome}
use Rattle.std.specs.Option.{option_map}
use Rattle.std.proofs.lemmas.Int.{ints}
use Rattle.std.proofs.lemmas.List.{length-map, map-append}
use Rattle.std.proofs.lemmas.List.Elements.{All-head, All-tail, All-map, All-weaker, All-append, All-get_or, All-from_get_or}
use Rattle.bsi_columns.specs.declared.any.AnyColumn.{AnyColumn}
use Rattle.bsi_columns.specs.AnyColumns.{any_entries, any_form, any_size, size_in_form}
use Rattle.bsi_columns.proofs.EntryReads.{map_read}
use Rattle.bsi_digits.specs.Blocks.{block_entries, block_entry, offset_entries, IsNumberBlock}
use Rattle.bsi_digits.specs.Offsets.{number_of, IsInRange}
use Rattle.bsi_digits.specs.Orders.{compares_by, values_at}
use Rattle.bsi_digits.specs.Comparisons.{number_or_zero, number_order, selects}
use Rattle.bsi_digits.specs.WholeNumbers.{signed_order, signed_selects}
use Rattle.bsi_digits.specs.declared.op.Op.{Op}
use Rattle.bsi_digits.proofs.BlockEntries.{length-offset_entries, get_or-offset_entries, number-block_entry}
use Rattle.bsi_slices.proofs.BlockWords.{small-block_entries}
use Rattle.bsi_shift.specs.Shifted.{OffsetColumn, shifted_entries, IsShifted}

-- the entries of stored numbers and an offset
abbrev pub entries_from : ℤ → List (Option ℕ) → List (Option ℤ)
entries_from offset stored = map (option_map (number_of offset)) stored

pub shifted_entries-is : (c : OffsetColumn) → shifted_entries c ≡ entries_from c.offset (any_entries c.stored)
unfolding shifted_entries
shifted_entries-is c = refl

pub nulls_from : (offset : ℤ) (stored : List (Option ℕ)) → map is_none (entries_from offset stored) ≡ map is_none stored
nulls_from offset [] = refl
nulls_from offset (None ∷ stored) = ap (λ bits. true ∷ bits) (nulls_from offset stored)
nulls_from offset (Some n ∷ stored) = ap (λ bits. false ∷ bits) (nulls_from offset stored)

pub not_null_from : (offset : ℤ) (stored : List (Option ℕ)) → map is_some (entries_from offset stored) ≡ map is_some stored
not_null_from offset [] = refl
not_null_from offset (None ∷ stored) = ap (λ bits. false ∷ bits) (not_null_from offset stored)
not_null_from offset (Some n ∷ stored) = ap (λ bits. true ∷ bits) (not_null_from offset stored)

-- the numbers that a selection has are those of the stored ones
pub values_from : (offset : ℤ) (selection : List Bool) (stored : List (Option ℕ)) → values_at selection (entries_from offset stored) ≡ map (number_of offset) (values_at selection stored)
values_from offset [] stored = refl
values_from offset (f ∷ selection) [] = refl
values_from offset (false ∷ selection) (e ∷ stored) = values_from offset selection stored
values_from offset (true ∷ selection) (None ∷ stored) = values_from offset selection stored
values_from offset (true ∷ selection) (Some n ∷ stored) = ap (λ values. number_of offset n ∷ values) (values_from offset selection stored)

-- stored numbers below the size stand for numbers in range
pub in_range_from : (offset : ℤ) (size : ℕ) (stored : List (Option ℕ)) → All (λ e. number_or_zero e < size) stored → All (IsInRange offset size) (entries_from offset stored)
in_range_from offset size stored below = All-map (IsInRange offset size) (option_map (number_of offset)) stored (All-weaker (λ e. number_or_zero e < size) (λ e. IsInRange offset size (option_map (number_of offset) e)) one stored below)
  where
    one : (e : Option ℕ) → number_or_zero e < size → IsInRange offset size (option_map (number_of offset) e)
    one None small = tt
    one (Some n) small = (omega (arith, ints), omega (arith, ints))

-- a comparison that agrees on each stored number selects the same rows
module _ (offset constant : ℤ) (op stored_op : Op) (stored_constant size : ℕ)
    (agree : (n : ℕ) → n < size → compares_by number_order stored_op n stored_constant ≡ compares_by signed_order op (number_of offset n) constant) where
  -- of one entry
  pub selected_one : (e : Option ℕ) → number_or_zero e < size → selects stored_op stored_constant e ≡ signed_selects op constant (option_map (number_of offset) e)
  selected_one None below = refl
  selected_one (Some n) below = agree n below

  pub selected_from : (stored : List (Option ℕ)) → All (λ e. number_or_zero e < size) stored
      → map (selects stored_op stored_constant) stored ≡ map (signed_selects op constant) (entries_from offset stored)
  selected_from [] below = refl
  selected_from (None ∷ stored) below = ap (λ bits. false ∷ bits) (selected_from stored (All-tail (λ e. number_or_zero e < size) None stored below))
  selected_from (Some n ∷ stored) below =
      ap₂ (λ bit bits. bit ∷ bits) (agree n (All-head (λ e. number_or_zero e < size) (Some n) stored below)) (selected_from stored (All-tail (λ e. number_or_zero e < size) (Some n) stored below))

-- as many entries as are stored
pub length-shifted_entries : (c : OffsetColumn) → length (shifted_entries c) ≡ length (any_entries c.stored)
length-shifted_entries c = ap length (shifted_entries-is c) ∙ length-map (any_entries c.stored) (option_map (number_of c.offset))

pub entries_from-push : (offset : ℤ) (stored : List (Option ℕ)) (entry : Option ℕ) → entries_from offset (stored ++ entry ∷ []) ≡ entries_from offset stored ++ option_map (number_of offset) entry ∷ []
entries_from-push offset stored entry = map-append (option_map (number_of offset)) stored (entry ∷ [])

-- the numbers that a selection has
pub values_at-shifted_entries : (c : OffsetColumn) (selection : List Bool) → values_at selection (shifted_entries c) ≡ map (number_of c.offset) (values_at selection (any_entries c.stored))
values_at-shifted_entries c selection = ap (values_at selection) (shifted_entries-is c) ∙ values_from c.offset selection (any_entries c.stored)

-- a stored number below the size stands for one below 2^63
pub fits : (offset : ℤ) (size : ℕ) → size ≤ 2 ^ 63 → (offset +ℤ pos size) ≤ℤ pos (2 ^ 63) → (answer : Option ℕ) → IfSome answer (λ n. n < size)
    → IfSome answer (λ n. (n < 2 ^ 63) × (number_of offset n <ℤ pos (2 ^ 63)))
fits offset size small within None below = tt
fits offset size small within (Some n) below = (omega (arith), omega (arith, ints))

-- each entry of a block in range
pub entry_in_range : (offset first : ℤ) (size : ℕ) (numbers : List ℕ) (not_null : ℕ) → All (IsInRange first size) (offset_entries offset numbers not_null)
    → (r : ℕ) → r < length numbers → IsInRange first size (option_map (number_of offset) (block_entry numbers not_null r))
entry_in_range offset first size numbers not_null range r within =
    subst (IsInRange first size) (get_or-offset_entries offset numbers not_null r within)
    (All-get_or (IsInRange first size) (offset_entries offset numbers not_null) r None (omega (arith, within, length-offset_entries offset numbers not_null)) range)

-- a range that has more numbers
pub wider_range : (offset : ℤ) (size most : ℕ) (entries : List (Option ℤ)) → size ≤ most → All (IsInRange offset size) entries → All (IsInRange offset most) entries
wider_range offset size most entries within range = All-weaker (IsInRange offset size) (IsInRange offset most) one entries range
  where
    one : (e : Option ℤ) → IsInRange offset size e → IsInRange offset most e
    one None inside = tt
    one (Some x) inside = (inside.0, omega (arith, ints, within, inside.1))

-- a block whose numbers stand less the offset of the column
module _ (stored : AnyColumn) (offset : ℤ) (size : ℕ) (numbers : List ℕ) (not_null : ℕ) (shifted : IsShifted stored offset size) (block : IsNumberBlock numbers not_null)
    (range : All (IsInRange offset (any_size stored)) (offset_entries offset numbers not_null)) where
  -- has numbers below the size
  pub block_below : All (λ n. n < any_size stored) numbers
  block_below = All-from_get_or (λ n. n < any_size stored) numbers 0 (λ r within.
      subst (λ (n : ℕ). n < any_size stored) (number-block_entry numbers not_null block r)
      (one (block_entry numbers not_null r) (entry_in_range offset offset (any_size stored) numbers not_null range r within)))
    where
      one : (e : Option ℕ) → IsInRange offset (any_size stored) (option_map (number_of offset) e) → number_or_zero e < any_size stored
      one None inside = omega (arith, shifted.some, shifted.size_is)
      one (Some n) inside = omega (arith, ints, inside.1)

  module _ (new : AnyColumn) (entries : any_entries new ≡ any_entries stored ++ block_entries numbers not_null) where
    -- and stands after the column's entries
    pub shifted_more : any_form new ≡ any_form stored → IsShifted new offset size
    shifted_more form = record {
      size_is = shifted.size_is ∙ ap size_in_form (sym form);
      small = shifted.small;
      some = shifted.some;
      within = shifted.within;
      below = subst (λ es. All (λ e. number_or_zero e < size) es) (sym entries)
          (All-append (λ e. number_or_zero e < size) (any_entries stored) (block_entries numbers not_null) shifted.below
          (small-block_entries numbers not_null block size (subst (λ (n : ℕ). All (λ m. m < n) numbers) (sym shifted.size_is) block_below)));
    }

    pub entries_more : (c : OffsetColumn) → record { stored = stored; offset = offset } ≡ c
        → shifted_entries (record { stored = new; offset = offset }) ≡ shifted_entries c ++ offset_entries offset numbers not_null
    entries_more c view =
        shifted_entries-is (record { stored = new; offset = offset })
        ∙ ap (entries_from offset) entries
        ∙ map-append (option_map (number_of offset)) (any_entries stored) (block_entries numbers not_null)
        ∙ ap (λ es. es ++ offset_entries offset numbers not_null) (ap (λ v. entries_from v.offset (any_entries v.stored)) view ∙ sym (shifted_entries-is c))

-- entry r is that of what is stored, and none past the last
pub entry_from : (c : OffsetColumn) (r : ℕ) → get_or (shifted_entries c) r None ≡ option_map (number_of c.offset) (get_or (any_entries c.stored) r None)
entry_from c r = ap (λ es. get_or es r None) (shifted_entries-is c) ∙ map_read (option_map (number_of c.offset)) (any_entries c.stored) r

pub null_from : (offset : ℤ) (e : Option ℕ) → is_none (option_map (number_of offset) e) ≡ is_none e
null_from offset None = refl
null_from offset (Some n) = refl
