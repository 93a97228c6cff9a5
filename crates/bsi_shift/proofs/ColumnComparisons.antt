-- 64 rows as they are read, and how the numbers of two columns compare.
use Rattle.std.proofs.Common.{◌≡◌, ℕ, ◌+◌, ◌*◌, ◌/◌, ◌%◌, ◌<◌, ◌≤◌, ◌^◌, Bool, false, ◌&&◌, ℤ, pos, ◌+ℤ◌, ◌<ℤ◌, ◌≤ℤ◌, List, [], ◌∷◌, Option, Some, None, cond, is_some, length, map, get_or, zero, suc, inl, inr, ap, ap₂, sym, subst, ◌∙◌, refl, arith}
use Rattle.std.specs.Prelude.{All, ◌==◌, bit_and, min}
use Rattle.std.specs.Int.{bit_at}
use Rattle.std.specs.Option.{option_map}
use Rattle.std.proofs.lemmas.Bool.{cases_lt}
use Rattle.std.proofs.lemmas.Bool.Decides.{nat_tests}
use Rattle.std.proofs.lemmas.Int.{ints}
use Rattle.std.proofs.lemmas.List.{get_or_past}
use Rattle.std.proofs.lemmas.Nat.Bits.{bit_at-lt, bit_at_and}
use Rattle.bsi_bits.specs.Packed.{bit_of}
use Rattle.bsi_columns.proofs.EntryReads.{all_read}
use Rattle.bsi_digits.specs.Blocks.{value_entry}
use Rattle.bsi_digits.specs.Offsets.{number_of}
use Rattle.bsi_digits.specs.Orders.{compares_by}
use Rattle.bsi_digits.specs.Comparisons.{number_or_zero}
use Rattle.bsi_digits.specs.WholeNumbers.{signed_relates}
use Rattle.bsi_digits.specs.WholeNumbers.{signed_order}
use Rattle.bsi_digits.specs.declared.op.Op.{Op}
use Rattle.bsi_slices.specs.Related.{compares_numbers, compares_entries}
use Rattle.bsi_slices.specs.declared.slices.related.ColumnComparison.{ColumnComparison}

some_read : (entries : List (Option ℕ)) (r : ℕ) → get_or (map is_some entries) r false ≡ is_some (get_or entries r None)
some_read [] r = refl
some_read (e ∷ entries) zero = refl
some_read (e ∷ entries) (suc r) = some_read entries r

entry_of : (offset : ℤ) (e : Option ℕ) (there : Bool) (number : ℤ) → there ≡ is_some e → ((n : ℕ) → e ≡ Some n → number ≡ number_of offset n)
    → cond there (Some number) None ≡ option_map (number_of offset) e
entry_of offset None there number is at = ap (λ b. cond b (Some number) None) is
entry_of offset (Some n) there number is at = ap (λ b. cond b (Some number) None) is ∙ ap Some (at n refl)

-- the bit of a row, in the word where it stands
pub word_bit : (words : List ℕ) (at r : ℕ) → r < 64 → (bit_at (get_or words at 0) r == 1) ≡ bit_of words (64 * at + r)
word_bit words at r near =
    let word : at ≡ (64 * at + r) / 64 = omega arith in
    let place : r ≡ (64 * at + r) % 64 = omega arith in
    ap₂ (λ i p. bit_at (get_or words i 0) p == 1) word place

small_number : (offset : ℤ) (size n : ℕ) → (offset +ℤ pos size) ≤ℤ pos (2 ^ 63) → n < size → number_of offset n <ℤ pos (2 ^ 63)
small_number offset size n within below = grind (arith, ints)

-- the entry of a row, once the words of the rows that have a number and the stored numbers are read
pub entry_read : (offset : ℤ) (stored : List (Option ℕ)) (size at r : ℕ) (words numbers : List ℕ) (shifted : List ℤ) → r < 64 → 0 < size → size ≤ 2 ^ 63 → (offset +ℤ pos size) ≤ℤ pos (2 ^ 63)
    → All (λ e. number_or_zero e < size) stored → ((i : ℕ) → bit_of words i ≡ get_or (map is_some stored) i false)
    → (64 * at + r < length stored → get_or numbers r 0 ≡ number_or_zero (get_or stored (64 * at + r) None))
    → (get_or numbers r 0 < 2 ^ 63 → number_of offset (get_or numbers r 0) <ℤ pos (2 ^ 63) → get_or shifted r (pos 0) ≡ number_of offset (get_or numbers r 0))
    → value_entry shifted (get_or words at 0) r ≡ option_map (number_of offset) (get_or stored (64 * at + r) None)
entry_read offset stored size at r words numbers shifted near some most within below bits read moved =
    entry_of offset (get_or stored (64 * at + r) None) (bit_at (get_or words at 0) r == 1) (get_or shifted r (pos 0))
    (word_bit words at r near ∙ bits (64 * at + r) ∙ some_read stored (64 * at + r)) (λ n is.
    let number : get_or numbers r 0 ≡ n = elim (cases_lt (64 * at + r) (length stored)) [
      | inl row ↦ read row ∙ ap number_or_zero is
      | inr past ↦ absurd (none_some n (sym (get_or_past stored (64 * at + r) None past) ∙ is))
    ] in
    let small : n < size = subst (λ e. number_or_zero e < size) is (all_read (λ e. number_or_zero e < size) stored (64 * at + r) some below) in
    moved (omega (arith, number, small, most)) (subst (λ m. number_of offset m <ℤ pos (2 ^ 63)) (sym number) (small_number offset size n within small)) ∙ ap (number_of offset) number)
  where
    none_some : (n : ℕ) → None ≡ Some n → ⊥
    none_some n is = cc

both_one : (a b : ℕ) → a < 2 → b < 2 → (min a b == 1) ≡ ((a == 1) && (b == 1))
both_one a b first second = grind (arith, nat_tests)

pub and_bit : (a b r : ℕ) → (bit_at (bit_and a b) r == 1) ≡ ((bit_at a r == 1) && (bit_at b r == 1))
and_bit a b r = ap (λ x. x == 1) (bit_at_and a b r) ∙ both_one (bit_at a r) (bit_at b r) (bit_at-lt a r) (bit_at-lt b r)

-- stored numbers that are compared so say what the numbers do
pub relates_shifted : (op : Op) (offset other : ℤ) (size others : ℕ) (comparison : ColumnComparison) → ((x y : ℕ) → x < size → y < others → compares_numbers comparison x y ≡ compares_by signed_order op (number_of offset x) (number_of other y))
    → (first second : Option ℕ) → number_or_zero first < size → number_or_zero second < others
    → compares_entries comparison first second ≡ signed_relates op (option_map (number_of offset) first) (option_map (number_of other) second)
relates_shifted op offset other size others comparison agree (Some x) (Some y) low below = agree x y low below
relates_shifted op offset other size others comparison agree (Some x) None low below = refl
relates_shifted op offset other size others comparison agree None (Some y) low below = refl
relates_shifted op offset other size others comparison agree None None low below = refl
