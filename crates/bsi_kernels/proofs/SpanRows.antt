-- Rows of a span that a bitmap has, or does not have.
use Rattle.std.proofs.Common.{◌≡◌, ℕ, ◌+◌, ◌*◌, ◌^◌, ◌<◌, ◌≤◌, Bool, true, false, not, List, length, get_or, inl, inr, ap, ap₂, sym, ◌∙◌, refl, arith, ◌==◌}
use Rattle.std.specs.Prelude.{bit_or}
use Rattle.std.specs.Int.{bit_at}
use Rattle.std.specs.Simd.Lanes.{zip2, chunk}
use Rattle.std.proofs.lemmas.Bool.{cases_lt}
use Rattle.std.proofs.lemmas.Bool.Decides.{nat_tests}
use Rattle.std.proofs.lemmas.List.{get_or_past}
use Rattle.std.proofs.lemmas.Nat.{le_or_l, le_or_r}
use Rattle.std.proofs.lemmas.Simd.{get_or-zip2, length-zip2, length-chunk}
use Rattle.bsi_bits.specs.SetRows.{HasRow}
use Rattle.bsi_bits.specs.Packed.{bit_of}
use Rattle.bsi_bits.proofs.SetRows.{none_set, some_set}
use Rattle.bsi_kernels.proofs.SpanBits.{stepped_place}

-- what was seen of the words that a step makes of a span and others, up to word i
pub record IsSeen (word_of : ℕ → ℕ → ℕ) (span others : List ℕ) (i seen : ℕ) : Type 0 where
  pub none : seen ≡ 0 → (k : ℕ) → k < i → word_of (get_or span k 0) (get_or others k 0) ≡ 0
  pub empty : ((k : ℕ) → k < length span → word_of (get_or span k 0) (get_or others k 0) ≡ 0) → seen ≡ 0

pub seen_more : (word_of : ℕ → ℕ → ℕ) (span others : List ℕ) (i seen word : ℕ) → i < length span → word ≡ word_of (get_or span i 0) (get_or others i 0)
    → IsSeen word_of span others i seen → IsSeen word_of span others (i + 1) (bit_or seen word)
seen_more word_of span others i seen word within is state = record {
  none = λ zero_is k below.
      let before : seen ≡ 0 = omega (arith, zero_is, le_or_l seen word) in
      let here : word ≡ 0 = omega (arith, zero_is, le_or_r seen word) in
      elim (cases_lt k i) [
        | inl first ↦ state.none before k first
        | inr last ↦ let same : k ≡ i = omega arith in ap (λ j. word_of (get_or span j 0) (get_or others j 0)) same ∙ sym is ∙ here
      ];
  empty = λ each. ap₂ bit_or (state.empty each) (is ∙ each i within);
}

from_ne : (n : ℕ) → not (n == 0) ≡ false → n ≡ 0
from_ne n test = grind (arith, nat_tests, test)

ne_zero : (n : ℕ) → not (n == 0) ≡ true → n ≡ 0 → ⊥
ne_zero n test zero_is = grind (arith, nat_tests, test, zero_is)

module _ (IsFit : ℕ → Type 0) (word_of : ℕ → ℕ → ℕ) (bit : Bool → Bool → Bool)
    (each : (x y i : ℕ) → IsFit y → i < 64 → (bit_at (word_of x y) i == 1) ≡ bit (bit_at x i == 1) (bit_at y i == 1))
    (less : (x y : ℕ) → word_of x y ≤ x)
    (span words : List ℕ) (fit : (k : ℕ) → IsFit (get_or words k 0)) (fits : (k : ℕ) → get_or span k 0 < 2 ^ 64) (at n : ℕ) (same : n ≡ length span) (within : at + n ≤ length words)
    (bits : List Bool) (places : (k : ℕ) → bit_of words k ≡ get_or bits k false)
    (i seen : ℕ) (all : length span ≤ i) (state : IsSeen word_of span (chunk at n words) i seen) where
  abbrev made : List ℕ
  made = zip2 word_of span (chunk at n words)

  even : length span ≡ length (chunk at n words)
  even = sym same ∙ sym (length-chunk at n words within)

  read : (k : ℕ) → k < length span → get_or made k 0 ≡ word_of (get_or span k 0) (get_or (chunk at n words) k 0)
  read k below = get_or-zip2 word_of span (chunk at n words) k 0 0 0 below (omega (arith, even))

  past : (k : ℕ) → length span ≤ k → get_or made k 0 ≡ 0
  past k above = get_or_past made k 0 (omega (arith, length-zip2 word_of span (chunk at n words) even))

  pub none_seen : not (seen == 0) ≡ false → (p : ℕ) → p < 64 * length span → bit (bit_of span p) (get_or bits (64 * at + p) false) ≡ false
  none_seen test p below =
      sym (ap (bit (bit_of span p)) (places (64 * at + p)))
      ∙ sym (stepped_place IsFit word_of bit each span words fit at n same within p below)
      ∙ none_set made (λ k. elim (cases_lt k (length span)) [
        | inl first ↦ read k first ∙ state.none (from_ne seen test) k (omega (arith, first, all))
        | inr above ↦ past k above
      ]) p

  pub some_seen : not (seen == 0) ≡ true → HasRow (λ p. bit (bit_of span p) (get_or bits (64 * at + p) false)) (64 * length span)
  some_seen test =
      let row = some_set made
      (λ k. elim (cases_lt k (length span)) [
        | inl first ↦ omega (arith, read k first, less (get_or span k 0) (get_or (chunk at n words) k 0), fits k)
        | inr above ↦ omega (arith, past k above)
      ])
      (λ none. ne_zero seen test (state.empty (λ k first. sym (read k first) ∙ none k))) in
      let below : row.0 < 64 * length span = omega (arith, row.1, length-zip2 word_of span (chunk at n words) even) in
      let there = sym (stepped_place IsFit word_of bit each span words fit at n same within row.0 below) ∙ row.2 in
      (row.0, below, sym (ap (bit (bit_of span row.0)) (places (64 * at + row.0))) ∙ there)
