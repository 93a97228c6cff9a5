-- The numbers of 64 rows, by the words of their binary places.
use Rattle.std.proofs.Common.{◌≡◌, ℕ, ◌+◌, ◌*◌, ◌/◌, ◌%◌, ◌^◌, ◌<◌, ◌≤◌, Bool, true, false, List, length, get_or, set, length-set, inl, inr, ap, ap₂, sym, ◌∙◌, refl, arith}
use Rattle.std.specs.Prelude.{◌==◌, Some, None, if◌then◌else◌}
use Rattle.std.specs.Int.{bit_at}
use Rattle.std.proofs.Math.Nat.{pow-le-pow_right}
use Rattle.std.proofs.lemmas.Nat.Bits.{bit_at-lt, bit_at-zero, bit_at_above, same_from_bits_below}
use Rattle.std.proofs.lemmas.List.{get_or-set_same, get_or-set_other}
use Rattle.std.proofs.lemmas.Bool.{cases_eq, cases_lt}
use Rattle.std.proofs.lemmas.Bool.Decides.{nat_tests}
use Rattle.bsi_bits.specs.BitList.{BitList}
use Rattle.bsi_bits.specs.BitLists.{bits_at}
use Rattle.bsi_bits.specs.Packed.{bit_of}
use Rattle.bsi_digits.specs.Comparisons.{number_or_zero}
use Rattle.bsi_slices.specs.Slices.{entries_in, number, IsSliced}
use Rattle.bsi_slices.proofs.SliceEntries.{get_or-entries_in}
use Rattle.bsi_slices.proofs.SliceNumbers.{number_below, number_place}

same_bit : (a b : ℕ) → a < 2 → b < 2 → (a == 1) ≡ (b == 1) → a ≡ b
same_bit a b first second same = grind (arith, nat_tests)

-- bit r of each of the first n words is that place of a number, and the other words are 0; once turned, the words have
-- this number
pub turned_number : (words numbers : List ℕ) (n r v : ℕ) → n ≤ 64 → r < 64 → get_or numbers r 0 < 2 ^ 64 → v < 2 ^ n
    → ((k : ℕ) → k < 64 → bit_at (get_or numbers r 0) k ≡ bit_at (get_or words k 0) r)
    → ((k : ℕ) → k < n → (bit_at (get_or words k 0) r == 1) ≡ (bit_at v k == 1)) → ((k : ℕ) → n ≤ k → get_or words k 0 ≡ 0)
    → get_or numbers r 0 ≡ v
turned_number words numbers n r v few near fits small turned placed clear =
    same_from_bits_below 64 (get_or numbers r 0) v fits (let most : 2 ^ n ≤ 2 ^ 64 = pow-le-pow_right (omega arith) few in omega (arith, most, small)) (λ k below. turned k below ∙ elim (cases_lt k n) [
      | inl inside ↦ same_bit (bit_at (get_or words k 0) r) (bit_at v k) (bit_at-lt (get_or words k 0) r) (bit_at-lt v k) (placed k inside)
      | inr above ↦ ap (λ w. bit_at w r) (clear k above) ∙ bit_at-zero r ∙ sym (bit_at_above v n k small above)
    ])

-- the first n words are those at one place of so many slices, and the others are 0
pub record AreGathered (slices : List BitList) (at n : ℕ) (words : List ℕ) : Type 0 where
  pub long : length words ≡ 64
  pub done : (k r : ℕ) → k < n → r < 64 → (bit_at (get_or words k 0) r == 1) ≡ get_or (bits_at slices k) (64 * at + r) false
  pub rest : (k : ℕ) → n ≤ k → get_or words k 0 ≡ 0

-- once turned, they are the numbers
pub gathered_numbers : (slices : List BitList) (at : ℕ) (words numbers : List ℕ) (r : ℕ) → length slices ≤ 63 → r < 64 → get_or numbers r 0 < 2 ^ 64
    → ((k : ℕ) → k < 64 → bit_at (get_or numbers r 0) k ≡ bit_at (get_or words k 0) r) → AreGathered slices at (length slices) words
    → get_or numbers r 0 ≡ number slices (64 * at + r)
gathered_numbers slices at words numbers r few near fits turned gathered =
    turned_number words numbers (length slices) r (number slices (64 * at + r)) (omega (arith, few)) near fits (number_below slices (64 * at + r)) turned
    (λ k inside. gathered.done k r inside near ∙ sym (number_place slices (64 * at + r) k inside)) gathered.rest

-- the number in the slices of a row is that of its entry
pub entry_number : (not_null : List Bool) (slices : List BitList) (r : ℕ) → IsSliced not_null slices → r < length not_null
    → number slices r ≡ number_or_zero (get_or (entries_in not_null slices) r None)
entry_number not_null slices r tested within = by (get_or not_null r false) (tested.clear r within) ∙ sym (ap number_or_zero (get_or-entries_in not_null slices r None within))
  where
    by : (there : Bool) → (there ≡ false → number slices r ≡ 0) → number slices r ≡ number_or_zero (if there then Some (number slices r) else None)
    by true clear = refl
    by false clear = clear refl
