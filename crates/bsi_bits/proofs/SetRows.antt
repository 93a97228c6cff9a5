-- Words with and without a row that is set.
use Rattle.std.proofs.Common.{◌≡◌, ℕ, zero, suc, ◌+◌, ◌*◌, ◌/◌, ◌%◌, ◌^◌, ◌<◌, false, List, [], ◌∷◌, length, get_or, inl, inr, ap, ap₂, ◌∙◌, refl, arith, ◌==◌}
use Rattle.std.specs.Int.{bit_at, trailing_zeros, w64}
use Rattle.std.proofs.lemmas.Bool.{cases_eq}
use Rattle.std.proofs.lemmas.Nat.Bits.{bit_at-zero, bit_at-trailing_zeros}
use Rattle.bsi_bits.specs.SetRows.{HasRow}
use Rattle.bsi_bits.specs.Packed.{bit_of}

pub none_set : (words : List ℕ) → ((k : ℕ) → get_or words k 0 ≡ 0) → (p : ℕ) → bit_of words p ≡ false
none_set words none p = ap (λ w. bit_at w (p % 64) == 1) (none (p / 64)) ∙ ap (λ b. b == 1) (bit_at-zero (p % 64))

pub some_set : (words : List ℕ) → ((k : ℕ) → get_or words k 0 < 2 ^ 64) → (((k : ℕ) → get_or words k 0 ≡ 0) → ⊥) → HasRow (bit_of words) (64 * length words)
some_set [] fits some = absurd (some (λ k. refl))
some_set (x ∷ words) fits some = elim (cases_eq x 0) [
  | inl zero_is ↦
      let later = some_set words (λ k. fits (suc k)) (λ none. some (λ k. elim k as (λ k. get_or (x ∷ words) k 0 ≡ 0) [ zero ↦ zero_is | suc j ↦ none j ])) in (
        later.0 + 64,
        omega (arith, later.1),
        (let word : (later.0 + 64) / 64 ≡ suc (later.0 / 64) = omega arith in
            let place : (later.0 + 64) % 64 ≡ later.0 % 64 = omega arith in
            ap₂ (λ q r. bit_at (get_or (x ∷ words) q 0) r == 1) word place ∙ later.2),
      )
  | inr apart ↦
      let lowest = bit_at-trailing_zeros w64 x (omega arith) (fits 0) in
      let p : ℕ = trailing_zeros w64 x in
      let below : p < 64 = lowest.0 in (
        p,
        omega (arith, below),
        (let word : p / 64 ≡ 0 = omega (arith, below) in
            let place : p % 64 ≡ p = omega (arith, below) in
            ap₂ (λ q r. bit_at (get_or (x ∷ words) q 0) r == 1) word place ∙ ap (λ b. b == 1) lowest.1),
      )
]
