-- The ones in the words of pairs are the pairs of bits that a Boolean operation sets.
use Rattle.std.proofs.Common.{◌≡◌, ℕ, ◌^◌, ◌<◌, ◌≤◌, Bool, List, length, get_or, inl, inr, ap, ◌∙◌, arith}
use Rattle.std.specs.Prelude.{sum_by, count_by, count_ones}
use Rattle.std.specs.Simd.Lanes.{zip2}
use Rattle.std.proofs.lemmas.Simd.{length-zip2, get_or-zip2}
use Rattle.std.proofs.lemmas.List.{get_or_past}
use Rattle.std.proofs.lemmas.Bool.{cases_lt}
use Rattle.bsi_bits.specs.Packed.{bits_of, IsPacked}
use Rattle.bsi_bits.proofs.Counting.{count_packed}
use Rattle.bsi_bits.proofs.Logic.{IsBitwise, other_fits, same_words, zipped_packed, paired_bits}

module _ (n m : ℕ) (words others : List ℕ) (packed : IsPacked n words) (other_packed : IsPacked m others) (same : length (bits_of n words) ≡ length (bits_of m others))
    (fits : (k : ℕ) → get_or words k 0 < 2 ^ 64)
    (IsFit : ℕ → Type 0) (word_of : ℕ → ℕ → ℕ) (bit : Bool → Bool → Bool) (bitwise : IsBitwise IsFit word_of bit) (fit : (k : ℕ) → IsFit (get_or others k 0))
    (within : (x y : ℕ) → word_of x y ≤ x) where
  pair_fits : (k : ℕ) → get_or (zip2 word_of words others) k 0 < 2 ^ 64
  pair_fits k =
      let long = same_words n m words others packed other_packed same in
      elim (cases_lt k (length words)) [
        | inl inside ↦
            let pair = get_or-zip2 word_of words others k 0 0 0 inside (omega (arith, long)) in
            omega (arith, pair, fits k, within (get_or words k 0) (get_or others k 0))
        | inr past ↦
            let none = get_or_past (zip2 word_of words others) k 0 (omega (arith, length-zip2 word_of words others long)) in
            omega (arith, none)
      ]

  pub count_pairs : sum_by count_ones (zip2 word_of words others) ≡ count_by (λ b. b) (zip2 bit (bits_of n words) (bits_of m others))
  count_pairs =
      count_packed n (zip2 word_of words others)
      (zipped_packed IsFit word_of bit bitwise n words others packed (other_fits n m words others packed other_packed same) fit) pair_fits
      ∙ ap (count_by (λ b. b)) (paired_bits n m words others packed other_packed same IsFit word_of bit bitwise fit)
