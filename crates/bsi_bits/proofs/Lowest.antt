-- A number without its lowest 1.
use Rattle.std.proofs.Common.{◌≡◌, ◌≢◌, ℕ, ◌+◌, ◌-◌, ◌*◌, ◌/◌, ◌%◌, ◌^◌, ◌<◌, inl, inr, ap, sym, ◌∙◌, arith}
use Rattle.std.specs.Prelude.{bit_and}
use Rattle.std.specs.Int.{bit_at}
use Rattle.std.proofs.lemmas.Bool.{cases_lt, cases_eq}
use Rattle.std.proofs.lemmas.Nat.{and_le_l, div-add-mod', pow-add, pow_pos}
use Rattle.std.proofs.lemmas.Nat.Bits.{bit_at-pow_same, bit_at-pow_other, bit_at_and, bit_at_cat_low, bit_at_cat_high, bit_at_ones_above, same_from_bits}
use Rattle.bsi_bits.proofs.Places.{bit_unchanged, bit_dropped}

module _ (x t : ℕ) (there : bit_at x t ≡ 1) (clear : (i : ℕ) → i < t → bit_at x i ≡ 0) where
  twice : 2 ^ (t + 1) ≡ 2 ^ t * 2
  twice = pow-add 2 t 1

  -- the lowest 1 is what the number has up to there
  low_is : x % 2 ^ (t + 1) ≡ 2 ^ t
  low_is = same_from_bits (x % 2 ^ (t + 1)) (2 ^ t) (λ i. elim (cases_lt i (t + 1)) [
    | inl upto ↦ bit_unchanged x (t + 1) i upto ∙ elim (cases_eq i t) [
      | inl same ↦ ap (bit_at x) same ∙ there ∙ sym (bit_at-pow_same t) ∙ ap (bit_at (2 ^ t)) (sym same)
      | inr apart ↦ clear i (omega (arith, upto, apart)) ∙ sym (bit_at-pow_other t i apart)
    ]
    | inr past ↦ bit_dropped x (t + 1) i past ∙ sym (bit_at-pow_other t i (λ same. omega (arith, past, same)))
  ])

  split : x ≡ x / 2 ^ (t + 1) * 2 ^ (t + 1) + 2 ^ t
  split = sym (div-add-mod' x (2 ^ (t + 1))) ∙ ap (λ r. x / 2 ^ (t + 1) * 2 ^ (t + 1) + r) low_is

  less : x - 1 ≡ x / 2 ^ (t + 1) * 2 ^ (t + 1) + (2 ^ t - 1)
  less = omega (arith, split, pow_pos t)

  -- one less has the same places above it, and is clear there
  less_above : (i : ℕ) → t < i → bit_at (x - 1) i ≡ bit_at x i
  less_above i above =
      ap (λ y. bit_at y i) less ∙ bit_at_cat_high (x / 2 ^ (t + 1)) (t + 1) (2 ^ t - 1) i (omega (arith, twice, pow_pos t)) (omega (arith, above))
      ∙ sym (ap (λ y. bit_at y i) split ∙ bit_at_cat_high (x / 2 ^ (t + 1)) (t + 1) (2 ^ t) i (omega (arith, twice, pow_pos t)) (omega (arith, above)))

  less_there : bit_at (x - 1) t ≡ 0
  less_there = ap (λ y. bit_at y t) less ∙ bit_at_cat_low (x / 2 ^ (t + 1)) (t + 1) (2 ^ t - 1) t (omega arith) ∙ bit_at_ones_above t t (omega arith)

  pub lowest_gone : bit_at (bit_and x (x - 1)) t ≡ 0
  lowest_gone = omega (arith, bit_at_and x (x - 1) t, less_there)

  pub others_stay : (i : ℕ) → i ≢ t → bit_at (bit_and x (x - 1)) i ≡ bit_at x i
  others_stay i apart = elim (cases_lt i t) [
    | inl below ↦ omega (arith, bit_at_and x (x - 1) i, clear i below)
    | inr from ↦ omega (arith, bit_at_and x (x - 1) i, less_above i (omega (arith, from, apart)))
  ]

  pub lowest_less : bit_and x (x - 1) < x
  lowest_less = elim (cases_eq (bit_and x (x - 1)) x) [
    | inl same ↦ absurd (omega (arith, lowest_gone, ap (λ y. bit_at y t) same ∙ there))
    | inr apart ↦ omega (arith, apart, and_le_l x (x - 1))
  ]
