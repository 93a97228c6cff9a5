-- A block of numbers less one offset, stored as numbers less another.
use Rattle.std.proofs.Common.{◌≡◌, ℕ, ℤ, ◌+◌, ◌<◌, Bool, true, false, List, Some, None, All, length, get_or, set, length-set, inl, inr, ap, subst, sym, ◌∙◌, refl, arith}
use Rattle.std.specs.Prelude.{◌==◌, if◌then◌else◌}
use Rattle.std.specs.Int.{bit_at}
use Rattle.std.specs.Option.{option_map}
use Rattle.std.proofs.lemmas.Bool.{cases_eq}
use Rattle.std.proofs.lemmas.Bool.Decides.{nat_tests}
use Rattle.std.proofs.lemmas.List.{get_or-set_same, get_or-set_other, get_or_default, same_lists}
use Rattle.bsi_digits.specs.Blocks.{block_entry, offset_entries}
use Rattle.bsi_digits.specs.Offsets.{number_of, IsInRange}
use Rattle.bsi_digits.proofs.BlockEntries.{length-offset_entries, get_or-offset_entries}
use Rattle.bsi_shift.proofs.Shifting.{entry_in_range}

-- the first n numbers that are there are the same, and the others are 0
pub record IsMoved (first : ℤ) (numbers : List ℕ) (not_null : ℕ) (offset : ℤ) (stored : List ℕ) (n : ℕ) : Type 0 where
  pub long : length stored ≡ length numbers
  pub there : (r : ℕ) → r < n → bit_at not_null r ≡ 1 → number_of offset (get_or stored r 0) ≡ number_of first (get_or numbers r 0)
  pub nulls : (r : ℕ) → r < n → bit_at not_null r ≡ 0 → get_or stored r 0 ≡ 0

module _ (first : ℤ) (numbers : List ℕ) (not_null : ℕ) (offset : ℤ) (stored : List ℕ) where
  pub moved_more : (n number : ℕ) → n < length numbers → (bit_at not_null n ≡ 1 → number_of offset number ≡ number_of first (get_or numbers n 0))
      → (bit_at not_null n ≡ 0 → number ≡ 0) → IsMoved first numbers not_null offset stored n → IsMoved first numbers not_null offset (set stored n number) (n + 1)
  moved_more n number within there null before = record {
    long = length-set stored n number ∙ before.long;
    there = λ r below on. elim (cases_eq r n) [
      | inl same ↦
          ap (λ i. number_of offset (get_or (set stored n number) i 0)) same
          ∙ ap (number_of offset) (get_or-set_same stored n number 0 (omega (arith, within, before.long)))
          ∙ there (sym (ap (bit_at not_null) same) ∙ on) ∙ ap (λ i. number_of first (get_or numbers i 0)) (sym same)
      | inr apart ↦ ap (number_of offset) (get_or-set_other stored n r number 0 apart) ∙ before.there r (omega arith) on
    ];
    nulls = λ r below off. elim (cases_eq r n) [
      | inl same ↦
          ap (λ i. get_or (set stored n number) i 0) same
          ∙ get_or-set_same stored n number 0 (omega (arith, within, before.long))
          ∙ null (sym (ap (bit_at not_null) same) ∙ off)
      | inr apart ↦ get_or-set_other stored n r number 0 apart ∙ before.nulls r (omega arith) off
    ];
  }

  module _ (all : IsMoved first numbers not_null offset stored (length numbers)) where
    -- an entry
    moved_entry : (r : ℕ) → r < length numbers → option_map (number_of offset) (block_entry stored not_null r) ≡ option_map (number_of first) (block_entry numbers not_null r)
    moved_entry r within = by (bit_at not_null r == 1) (λ on. all.there r within (is_one on))
      where
        is_one : (bit_at not_null r == 1) ≡ true → bit_at not_null r ≡ 1
        is_one on = grind (arith, nat_tests)

        by : (there : Bool) → (there ≡ true → number_of offset (get_or stored r 0) ≡ number_of first (get_or numbers r 0))
            → option_map (number_of offset) (if there then Some (get_or stored r 0) else None) ≡ option_map (number_of first) (if there then Some (get_or numbers r 0) else None)
        by true same = ap Some (same refl)
        by false same = refl

    pub moved_entries : offset_entries offset stored not_null ≡ offset_entries first numbers not_null
    moved_entries =
        let long = length-offset_entries offset stored not_null in
        let others_long = length-offset_entries first numbers not_null in
        same_lists _ _ (long ∙ all.long ∙ sym others_long) (λ r d within.
        let below : r < length numbers = omega (arith, within, long, all.long) in
        get_or_default (offset_entries offset stored not_null) r d None within
        ∙ get_or-offset_entries offset stored not_null r (omega (arith, below, all.long))
        ∙ moved_entry r below
        ∙ sym (get_or-offset_entries first numbers not_null r below)
        ∙ get_or_default (offset_entries first numbers not_null) r None d (omega (arith, below, others_long)))

-- a number of a block in range
pub number_in_range : (offset first : ℤ) (size : ℕ) (numbers : List ℕ) (not_null : ℕ) → All (IsInRange first size) (offset_entries offset numbers not_null)
    → (r : ℕ) → r < length numbers → bit_at not_null r ≡ 1 → IsInRange first size (Some (number_of offset (get_or numbers r 0)))
number_in_range offset first size numbers not_null range r within on =
    subst (λ (b : ℕ). IsInRange first size (option_map (number_of offset) (if b == 1 then Some (get_or numbers r 0) else None))) on
    (entry_in_range offset first size numbers not_null range r within)
