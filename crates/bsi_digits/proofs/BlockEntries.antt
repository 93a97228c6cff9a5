-- The entries of a block of numbers.
use Rattle.std.proofs.Common.{◌≡◌, ℕ, ◌<◌, Bool, true, false, ℤ, pos, ◌+ℤ◌, List, All, Option, Some, None, is_some, length, get_or, refl, ap, subst, sym, ◌∙◌, arith}
use Rattle.std.specs.Prelude.{◌==◌, slice_index, if◌then◌else◌}
use Rattle.std.specs.Int.{bit_at}
use Rattle.std.specs.Option.{option_map}
use Rattle.std.proofs.lemmas.Bool.Decides.{nat_tests}
use Rattle.std.proofs.lemmas.List.{get_or-map, length-map}
use Rattle.std.proofs.lemmas.List.Elements.{All-from_get_or}
use Rattle.std.proofs.lemmas.List.FromFn.{get_or-map-range_with_len, length-map-range_with_len}
use Rattle.std.proofs.lemmas.Nat.Bits.{bit_at-lt}
use Rattle.bsi_digits.specs.Blocks.{block_entries, block_entry, offset_entries, value_entries, value_entry, IsNumberBlock}
use Rattle.bsi_digits.specs.Offsets.{number_of}
use Rattle.bsi_digits.specs.Comparisons.{number_or_zero}

module _ (numbers : List ℕ) (not_null : ℕ) where
  pub length-block_entries : length (block_entries numbers not_null) ≡ length numbers
  unfolding block_entries
  length-block_entries = length-map-range_with_len (block_entry numbers not_null) 0 (length numbers)

  pub get_or-block_entries : (r : ℕ) → r < length numbers → get_or (block_entries numbers not_null) r None ≡ block_entry numbers not_null r
  unfolding block_entries
  get_or-block_entries r within = get_or-map-range_with_len (block_entry numbers not_null) 0 (length numbers) r r None within (omega arith)

  -- a fact of each
  pub All-block_entries : (P : Option ℕ → Type 0) → ((r : ℕ) → r < length numbers → P (block_entry numbers not_null r)) → All P (block_entries numbers not_null)
  All-block_entries P each =
      All-from_get_or P (block_entries numbers not_null) None
      (λ r below.
      let there : r < length numbers = omega (arith, below, length-block_entries) in
      subst P (sym (get_or-block_entries r there)) (each r there))

  -- entry r is there where the word has bit r
  pub there-block_entry : (r : ℕ) → is_some (block_entry numbers not_null r) ≡ (bit_at not_null r == 1)
  there-block_entry r = by (bit_at not_null r == 1)
    where
      by : (there : Bool) → is_some (if there then Some (slice_index numbers r) else None) ≡ there
      by true = refl
      by false = refl

  -- what is stored of it is its number
  pub number-block_entry : IsNumberBlock numbers not_null → (r : ℕ) → number_or_zero (block_entry numbers not_null r) ≡ get_or numbers r 0
  number-block_entry is r = by (bit_at not_null r == 1) (λ clear. is.nulls r (zero clear))
    where
      zero : (bit_at not_null r == 1) ≡ false → bit_at not_null r ≡ 0
      zero clear = let low = bit_at-lt not_null r in grind (arith, nat_tests)

      by : (there : Bool) → (there ≡ false → get_or numbers r 0 ≡ 0) → number_or_zero (if there then Some (slice_index numbers r) else None) ≡ get_or numbers r 0
      by true clear = refl
      by false clear = sym (clear refl)

module _ (offset : ℤ) (numbers : List ℕ) (not_null : ℕ) where
  pub length-offset_entries : length (offset_entries offset numbers not_null) ≡ length numbers
  length-offset_entries = length-map (block_entries numbers not_null) (option_map (number_of offset)) ∙ length-block_entries numbers not_null

  pub get_or-offset_entries : (r : ℕ) → r < length numbers → get_or (offset_entries offset numbers not_null) r None ≡ option_map (number_of offset) (block_entry numbers not_null r)
  get_or-offset_entries r within =
      get_or-map (option_map (number_of offset)) (block_entries numbers not_null) r None None (omega (arith, within, length-block_entries numbers not_null))
      ∙ ap (option_map (number_of offset)) (get_or-block_entries numbers not_null r within)

-- the entries of a block of whole numbers
module _ (values : List ℤ) (not_null : ℕ) where
  pub length-value_entries : length (value_entries values not_null) ≡ length values
  unfolding value_entries
  length-value_entries = length-map-range_with_len (value_entry values not_null) 0 (length values)

  pub get_or-value_entries : (r : ℕ) → r < length values → get_or (value_entries values not_null) r None ≡ value_entry values not_null r
  unfolding value_entries
  get_or-value_entries r within = get_or-map-range_with_len (value_entry values not_null) 0 (length values) r r None within (omega arith)

  -- a fact of each
  pub All-value_entries : (P : Option ℤ → Type 0) → ((r : ℕ) → r < length values → P (value_entry values not_null r)) → All P (value_entries values not_null)
  All-value_entries P each =
      All-from_get_or P (value_entries values not_null) None
      (λ r below.
      let there : r < length values = omega (arith, below, length-value_entries) in
      subst P (sym (get_or-value_entries r there)) (each r there))
