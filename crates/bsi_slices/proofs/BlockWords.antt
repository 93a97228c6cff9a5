-- The words of a block of entries: that of the numbers that are there, and one for each binary place.
use Rattle.std.proofs.Common.{◌≡◌, ℕ, ◌+◌, ◌-◌, ◌/◌, ◌<◌, ◌≤◌, ◌^◌, Bool, true, false, List, ◌∷◌, [], ◌++◌, All, length, map, get_or, take, drop, replicate, Some, None, is_some, inl, inr, ap, sym, ◌∙◌, refl, arith}
use Rattle.std.specs.Prelude.{◌==◌, bit_and, if◌then◌else◌}
use Rattle.std.specs.Bool.{then_some}
use Rattle.std.specs.Int.{bit_at}
use Rattle.std.proofs.lemmas.Nat.Bits.{bit_at-zero, bit_at_above, shr_and_one}
use Rattle.std.proofs.lemmas.List.{length-map, get_or-map, get_or_past, get_or_append_left, get_or-append_right, get_or-drop, take_more}
use Rattle.std.proofs.lemmas.List.Elements.{All-get_or}
use Rattle.std.proofs.lemmas.Bool.{cases_lt}
use Rattle.bsi_bits.specs.Packed.{bits_of}
use Rattle.bsi_bits.proofs.Reading.{bits_are}
use Rattle.bsi_bits.proofs.Splicing.{below_power, one_word}
use Rattle.bsi_kernels.proofs.MarkBits.{zeros}
use Rattle.bsi_digits.specs.Blocks.{block_entries, IsNumberBlock}
use Rattle.bsi_digits.specs.Comparisons.{number_or_zero}
use Rattle.bsi_digits.proofs.BlockEntries.{length-block_entries, get_or-block_entries, All-block_entries, there-block_entry, number-block_entry}

module _ (numbers : List ℕ) (not_null : ℕ) (block : IsNumberBlock numbers not_null) where
  -- the number of each entry, and 0 past the last
  pub number-block_entries : (r : ℕ) → get_or numbers r 0 ≡ number_or_zero (get_or (block_entries numbers not_null) r None)
  number-block_entries r = elim (cases_lt r (length numbers)) [
    | inl within ↦ sym (ap number_or_zero (get_or-block_entries numbers not_null r within) ∙ number-block_entry numbers not_null block r)
    | inr past ↦
        get_or_past numbers r 0 past
        ∙ sym (ap number_or_zero (get_or_past (block_entries numbers not_null) r None (omega (arith, past, length-block_entries numbers not_null))))
  ]

  pub small-block_entries : (size : ℕ) → All (λ n. n < size) numbers → All (λ e. number_or_zero e < size) (block_entries numbers not_null)
  small-block_entries size small = All-block_entries numbers not_null (λ e. number_or_zero e < size) (λ r within.
      omega (arith, number-block_entry numbers not_null block r, All-get_or (λ n. n < size) numbers r 0 within small))

  -- the bits of the word tell which entries are numbers
  pub bits_are_some : length numbers ≤ 64 → bits_of (length numbers) (not_null ∷ []) ≡ map is_some (block_entries numbers not_null)
  bits_are_some few =
      sym (bits_are (length numbers) (not_null ∷ []) (map is_some (block_entries numbers not_null))
      (length-map (block_entries numbers not_null) is_some ∙ length-block_entries numbers not_null) (λ r below.
      get_or-map is_some (block_entries numbers not_null) r None false (omega (arith, below, length-block_entries numbers not_null))
      ∙ ap is_some (get_or-block_entries numbers not_null r below)
      ∙ there-block_entry numbers not_null r
      ∙ sym (one_word not_null r (omega arith))))

-- one entry more, as its bit and its number tell it
pub prefix_more : (numbers : List ℕ) (not_null r : ℕ) → r < length numbers
    → take (r + 1) (block_entries numbers not_null) ≡ take r (block_entries numbers not_null) ++ then_some (bit_and (not_null / 2 ^ r) 1 == 1) (get_or numbers r 0) ∷ []
prefix_more numbers not_null r within =
    take_more (block_entries numbers not_null) r None (omega (arith, within, length-block_entries numbers not_null))
    ∙ ap (λ e. take r (block_entries numbers not_null) ++ e ∷ [])
    (get_or-block_entries numbers not_null r within ∙ some_if (bit_at not_null r == 1) ∙ ap (λ b. then_some (b == 1) (get_or numbers r 0)) (sym (shr_and_one not_null r)))
  where
    some_if : (b : Bool) → (if b then Some (get_or numbers r 0) else None) ≡ then_some b (get_or numbers r 0)
    some_if true = refl
    some_if false = refl

-- numbers before words that are 0
pub filled_read : (numbers front : List ℕ) → front ≡ numbers → (r : ℕ) → get_or (front ++ drop (length numbers) (replicate 64 0)) r 0 ≡ get_or numbers r 0
filled_read numbers front is r = elim (cases_lt r (length numbers)) [
  | inl within ↦ get_or_append_left front (drop (length numbers) (replicate 64 0)) 0 r (omega (arith, within, ap length is)) ∙ ap (λ ns. get_or ns r 0) is
  | inr past ↦
      get_or-append_right front (drop (length numbers) (replicate 64 0)) (length numbers) r 0 (ap length is) past
      ∙ get_or-drop (length numbers) (replicate 64 0) (r - length numbers) 0
      ∙ zeros 64 (length numbers + (r - length numbers))
      ∙ sym (get_or_past numbers r 0 past)
]

-- the word of a binary place of a block, by its numbers
module _ (numbers words : List ℕ) (few : length numbers ≤ 64) (front : List ℕ) (is : front ≡ numbers)
    (turned : (k r : ℕ) → k < 64 → r < 64 → bit_at (get_or words k 0) r ≡ bit_at (get_or (front ++ drop (length numbers) (replicate 64 0)) r 0) k) (k : ℕ) (near : k < 64) where
  bit_is : (p : ℕ) → p < 64 → bit_at (get_or words k 0) p ≡ bit_at (get_or numbers p 0) k
  bit_is p below = turned k p near below ∙ ap (λ x. bit_at x k) (filled_read numbers front is p)

  pub word_is : (not_null : ℕ) → IsNumberBlock numbers not_null
      → bits_of (length numbers) (get_or words k 0 ∷ []) ≡ map (λ e. bit_at (number_or_zero e) k == 1) (block_entries numbers not_null)
  word_is not_null block =
      let entries = block_entries numbers not_null in
      let long = length-block_entries numbers not_null in
      sym (bits_are (length numbers) (get_or words k 0 ∷ []) (map (λ e. bit_at (number_or_zero e) k == 1) entries) (length-map entries (λ e. bit_at (number_or_zero e) k == 1) ∙ long) (λ p below.
      get_or-map (λ e. bit_at (number_or_zero e) k == 1) entries p None false (omega (arith, below, long))
      ∙ ap (λ n. bit_at n k == 1) (sym (number-block_entries numbers not_null block p))
      ∙ sym (one_word (get_or words k 0) p (omega arith) ∙ ap (λ b. b == 1) (bit_is p (omega arith)))))

  pub word_clear : get_or words k 0 < 2 ^ 64 → get_or words k 0 < 2 ^ length numbers
  word_clear fits = below_power (get_or words k 0) (length numbers) (λ p from. elim (cases_lt p 64) [
    | inl below ↦ bit_is p below ∙ ap (λ n. bit_at n k) (get_or_past numbers p 0 from) ∙ bit_at-zero k
    | inr past ↦ bit_at_above (get_or words k 0) 64 p fits past
  ])
