-- One more slice for the rows of a span.
use Rattle.std.proofs.Common.{◌≡◌, ℕ, ◌+◌, ◌*◌, ◌/◌, ◌%◌, ◌^◌, ◌<◌, ◌≤◌, Bool, true, false, ◌&&◌, ◌||◌, not, nat_lt, List, length, get_or, take, map, sym, ◌∙◌, ap, refl, arith, inl, inr}
use Rattle.std.specs.Prelude.{◌==◌, if◌then◌else◌, bit_and, bit_or}
use Rattle.std.specs.Int.{bit_at, bit_not, w64}
use Rattle.std.specs.Simd.Lanes.{zip2, chunk}
use Rattle.std.proofs.lemmas.Bool.{cases_lt}
use Rattle.std.proofs.lemmas.Bool.Decides.{nat_tests}
use Rattle.std.proofs.lemmas.List.{get_or_past}
use Rattle.std.proofs.lemmas.Nat.Bits.{bit_at-lt, shr_and_one}
use Rattle.std.proofs.lemmas.Simd.{length-zip2, length-chunk, get_or-chunk}
use Rattle.bsi_bits.specs.BitList.{BitList}
use Rattle.bsi_bits.specs.Packed.{bit_of}
use Rattle.bsi_bits.specs.BitLists.{bits_at}
use Rattle.bsi_slices.specs.Slices.{number}
use Rattle.bsi_kernels.proofs.WordSpans.{bit_of-chunk, and_bit, or_bit, cut_bit, cut_long, turned}
use Rattle.bsi_slices.proofs.SliceNumbers.{above_more, equal_more}

-- a span of words below 2^64 is of such words
pub chunk_fits : (at n : ℕ) (words : List ℕ) → ((k : ℕ) → get_or words k 0 < 2 ^ 64) → at + n ≤ length words → (k : ℕ) → get_or (chunk at n words) k 0 < 2 ^ 64
chunk_fits at n words fits enough k = elim (cases_lt k n) [
  | inl within ↦ rw (get_or-chunk at n words k 0 within) (fits (at + k))
  | inr past ↦ rw (get_or_past (chunk at n words) k 0 (omega (arith, length-chunk at n words enough))) (omega arith)
]

-- one span stepped by another
module _ (n : ℕ) (above slice : List ℕ) (long : length above ≡ n) (same : length slice ≡ n) where
  pub stepped_bit : (one : Bool) (p : ℕ) → p < 64 * n → bit_of (if one then zip2 bit_and above slice else zip2 bit_or above slice) p ≡ (if one then bit_of above p && bit_of slice p else (bit_of above p || bit_of slice p))
  stepped_bit true p within = and_bit above slice (long ∙ sym same) p (omega arith)
  stepped_bit false p within = or_bit above slice (long ∙ sym same) p (omega arith)

  pub stepped_long : (one : Bool) → length (if one then zip2 bit_and above slice else zip2 bit_or above slice) ≡ n
  stepped_long true = length-zip2 bit_and above slice (long ∙ sym same) ∙ long
  stepped_long false = length-zip2 bit_or above slice (long ∙ sym same) ∙ long

-- a place of the constant as it is read
pub one_read : (c i : ℕ) → (bit_and (c / 2 ^ i) 1 == 1) ≡ (bit_at c i == 1)
one_read c i = ap (λ b. b == 1) (shr_and_one c i)

zero_read : (c i : ℕ) → (bit_and (c / 2 ^ i) 1 == 0) ≡ not (bit_at c i == 1)
zero_read c i = ap (λ b. b == 0) (shr_and_one c i) ∙ other (bit_at c i) (bit_at-lt c i)
  where
    other : (b : ℕ) → b < 2 → (b == 0) ≡ not (b == 1)
    other b small = grind (arith, nat_tests)

module _ (slices : List BitList) (c at n i : ℕ) (words : List ℕ) (within : i < length slices) (enough : at + n ≤ length words)
    (places : (k : ℕ) → bit_of words k ≡ get_or (bits_at slices i) k false) where
  lane : (p : ℕ) → p < 64 * n → bit_of (chunk at n words) p ≡ get_or (bits_at slices i) (64 * at + p) false
  lane p below = bit_of-chunk at n words p below ∙ places (64 * at + p)

  -- the rows above by one more place
  pub above_step : (above : List ℕ) → length above ≡ n → ((p : ℕ) → p < 64 * n → bit_of above p ≡ nat_lt (c % 2 ^ i) (number (take i slices) (64 * at + p)))
      → (new : List ℕ) → new ≡ (if bit_and (c / 2 ^ i) 1 == 1 then zip2 bit_and above (chunk at n words) else zip2 bit_or above (chunk at n words))
      → (p : ℕ) → p < 64 * n → bit_of new p ≡ nat_lt (c % 2 ^ (i + 1)) (number (take (i + 1) slices) (64 * at + p))
  above_step above long before new is p below =
      ap (λ ws. bit_of ws p) is
      ∙ stepped_bit n above (chunk at n words) long (length-chunk at n words enough) (bit_and (c / 2 ^ i) 1 == 1) p below
      ∙ (λ j. if one_read c i j then before p below j && lane p below j else (before p below j || lane p below j))
      ∙ sym (above_more slices c i (64 * at + p) within)

  pub above_long : (above : List ℕ) → length above ≡ n → (new : List ℕ) → new ≡ (if bit_and (c / 2 ^ i) 1 == 1 then zip2 bit_and above (chunk at n words) else zip2 bit_or above (chunk at n words)) → length new ≡ n
  above_long above long new is = ap length is ∙ stepped_long n above (chunk at n words) long (length-chunk at n words enough) (bit_and (c / 2 ^ i) 1 == 1)

  -- the rows that are the constant by one more place
  pub equal_step : ((k : ℕ) → get_or words k 0 < 2 ^ 64) → (selection : List ℕ) → length selection ≡ n → ((p : ℕ) → p < 64 * n → bit_of selection p ≡ (c % 2 ^ i == number (take i slices) (64 * at + p)))
      → (new : List ℕ) → new ≡ (if bit_and (c / 2 ^ i) 1 == 0 then zip2 bit_and selection (map (bit_not w64) (chunk at n words)) else zip2 bit_and selection (chunk at n words))
      → (p : ℕ) → p < 64 * n → bit_of new p ≡ (c % 2 ^ (i + 1) == number (take (i + 1) slices) (64 * at + p))
  equal_step fits selection long before new is p below =
      ap (λ ws. bit_of ws p) is
      ∙ cut_bit n selection (chunk at n words) long (length-chunk at n words enough) (bit_and (c / 2 ^ i) 1 == 0) (chunk_fits at n words fits enough) p below
      ∙ (λ j. before p below j && turned (zero_read c i j) (lane p below j))
      ∙ ap (λ b. (c % 2 ^ i == number (take i slices) (64 * at + p)) && b) (of_one (bit_at c i == 1) (get_or (bits_at slices i) (64 * at + p) false))
      ∙ sym (equal_more slices c i (64 * at + p) within)
    where
      of_one : (one s : Bool) → turned (not one) s ≡ (if one then s else not s)
      of_one true s = refl
      of_one false s = refl

  pub equal_long : (selection : List ℕ) → length selection ≡ n → (new : List ℕ) → new ≡ (if bit_and (c / 2 ^ i) 1 == 0 then zip2 bit_and selection (map (bit_not w64) (chunk at n words)) else zip2 bit_and selection (chunk at n words)) → length new ≡ n
  equal_long selection long new is = ap length is ∙ cut_long n selection (chunk at n words) long (length-chunk at n words enough) (bit_and (c / 2 ^ i) 1 == 0)
