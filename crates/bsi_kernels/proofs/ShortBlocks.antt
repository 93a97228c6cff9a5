-- The words of a block that is filled up with digits 0.
use Rattle.std.proofs.Common.{◌≡◌, ◌≢◌, ℕ, ◌+◌, ◌-◌, ◌^◌, ◌<◌, ◌≤◌, Bool, true, false, List, length, get_or, set, length-set, length-append, length-drop, drop, replicate, ◌++◌, inl, inr, ap, sym, ◌∙◌, refl, arith}
use Rattle.std.specs.Prelude.{◌==◌, ◌&&◌, bit_and, nat_lt}
use Rattle.std.specs.Int.{bit_at}
use Rattle.std.proofs.lemmas.Nat.Bits.{bit_at-zero, bit_at_ones, bit_at_ones_above}
use Rattle.std.proofs.lemmas.List.{length-replicate, get_or_append_left, get_or-append_right, get_or-drop, get_or-set_same, get_or-set_other}
use Rattle.std.proofs.lemmas.Bool.{cases_eq, cases_lt}
use Rattle.std.proofs.lemmas.Bool.Decides.{nat_tests}
use Rattle.bsi_kernels.specs.Marks.{AreDigitMarks}
use Rattle.bsi_kernels.specs.Places.{then_places}
use Rattle.bsi_kernels.proofs.MarkBits.{ge_test, lt_test, marks_marked, marks_of, zeros}
use Rattle.bsi_kernels.proofs.PlaceBitmaps.{own_test, place_test}
use Rattle.bsi_kernels.proofs.Decoding.{and_bit}

and_true : (b : Bool) → (b && true) ≡ b
and_true true = refl
and_true false = refl

and_false : (b : Bool) → (b && false) ≡ false
and_false true = refl
and_false false = refl

zero_other : (j : ℕ) → j ≢ 0 → (0 == j) ≡ false
zero_other j other = grind (arith, nat_tests)

-- the digit 0 is in the first word alone
zero_first : (base j : ℕ) → j ≢ 0 → then_places base (λ j v. v == j) j 0 ≡ false
zero_first base j other = elim (cases_lt j base) [
  | inl inside ↦ own_test base (λ j v. v == j) j 0 inside ∙ zero_other j other
  | inr above ↦ place_test base (λ j v. v == j) j 0 above ∙ ap (λ b. b == 1) (bit_at-zero (j - base))
]

module _ (base : ℕ) (block whole words : List ℕ) (filled : length whole ≡ 64) (few : length block < 64) (some : 0 < length words)
    (same : (k : ℕ) → k < length block → get_or whole k 0 ≡ get_or block k 0) (zero : (k : ℕ) → length block ≤ k → get_or whole k 0 ≡ 0)
    (marks : AreDigitMarks (then_places base (λ j v. v == j)) whole words) where
  -- a bit of a digit of the block
  digit_bit : (j p : ℕ) → j < length words → p < length block → (bit_at (get_or words j 0) p == 1) ≡ (nat_lt p (length block) && then_places base (λ j v. v == j) j (get_or block p 0))
  digit_bit j p within below =
      (marks_marked (then_places base (λ j v. v == j)) whole words (omega arith) marks).each j p within
      ∙ lt_test p (length whole) (then_places base (λ j v. v == j) j (get_or whole p 0)) (omega arith)
      ∙ ap (then_places base (λ j v. v == j) j) (same p below)
      ∙ sym (lt_test p (length block) (then_places base (λ j v. v == j) j (get_or block p 0)) below)

  -- and one of a digit that is missing
  missing_bit : (j p : ℕ) → j < length words → j ≢ 0 → length block ≤ p → (bit_at (get_or words j 0) p == 1) ≡ false
  missing_bit j p within other past =
      (marks_marked (then_places base (λ j v. v == j)) whole words (omega arith) marks).each j p within
      ∙ ap (λ b. nat_lt p (length whole) && b) (ap (then_places base (λ j v. v == j) j) (zero p past) ∙ zero_first base j other)
      ∙ and_false (nat_lt p (length whole))

  -- so the first word without the bits of those that are missing
  pub short_marks : (mask : ℕ) → mask ≡ 2 ^ length block - 1 → AreDigitMarks (then_places base (λ j v. v == j)) block (set words 0 (bit_and (get_or words 0 0) mask))
  short_marks mask is =
      let n = length block in
      let first = bit_and (get_or words 0 0) mask in
      marks_of (then_places base (λ j v. v == j)) n block (set words 0 first) refl (omega arith) (record {
        each = λ j p within.
            let inside : j < length words = omega (arith, length-set words 0 first) in
            elim (cases_eq j 0) [
              | inl here ↦
                  ap (λ i. bit_at (get_or (set words 0 first) i 0) p == 1) here
                  ∙ ap (λ w. bit_at w p == 1) (get_or-set_same words 0 first 0 some)
                  ∙ and_bit (get_or words 0 0) mask p
                  ∙ elim (cases_lt p n) [
                    | inl below ↦
                        ap (λ m. (bit_at (get_or words 0 0) p == 1) && (bit_at m p == 1)) is
                        ∙ ap (λ b. (bit_at (get_or words 0 0) p == 1) && (b == 1)) (bit_at_ones n p below)
                        ∙ and_true (bit_at (get_or words 0 0) p == 1)
                        ∙ ap (λ i. bit_at (get_or words i 0) p == 1) (sym here)
                        ∙ digit_bit j p inside below
                    | inr past ↦
                        ap (λ m. (bit_at (get_or words 0 0) p == 1) && (bit_at m p == 1)) is
                        ∙ ap (λ b. (bit_at (get_or words 0 0) p == 1) && (b == 1)) (bit_at_ones_above n p past)
                        ∙ and_false (bit_at (get_or words 0 0) p == 1)
                        ∙ sym (ge_test p n (then_places base (λ j v. v == j) j (get_or block p 0)) past)
                  ]
              | inr other ↦
                  ap (λ w. bit_at w p == 1) (get_or-set_other words 0 j first 0 other)
                  ∙ elim (cases_lt p n) [
                    | inl below ↦ digit_bit j p inside below
                    | inr past ↦ missing_bit j p inside other past ∙ sym (ge_test p n (then_places base (λ j v. v == j) j (get_or block p 0)) past)
                  ]
            ];
      })

-- a block that is filled up
module _ (block front : List ℕ) (is : front ≡ block) (few : length block < 64) where
  pub filled_long : length (front ++ drop (length block) (replicate 64 0)) ≡ 64
  filled_long = omega (arith, ap length is, length-append front (drop (length block) (replicate 64 0)), length-drop (length block) (replicate {A = ℕ} 64 0), length-replicate {A = ℕ} 64 0)

  pub filled_same : (k : ℕ) → k < length block → get_or (front ++ drop (length block) (replicate 64 0)) k 0 ≡ get_or block k 0
  filled_same k inside = get_or_append_left front (drop (length block) (replicate 64 0)) 0 k (omega (arith, ap length is)) ∙ ap (λ ds. get_or ds k 0) is

  pub filled_zero : (k : ℕ) → length block ≤ k → get_or (front ++ drop (length block) (replicate 64 0)) k 0 ≡ 0
  filled_zero k past =
      get_or-append_right front (drop (length block) (replicate 64 0)) (length block) k 0 (ap length is) past
      ∙ get_or-drop (length block) (replicate 64 0) (k - length block) 0 ∙ zeros 64 (length block + (k - length block))

  pub filled_below : (base : ℕ) → 0 < length block → ((k : ℕ) → k < length block → get_or block k 0 < base) → (k : ℕ) → get_or (front ++ drop (length block) (replicate 64 0)) k 0 < base
  filled_below base some below k = elim (cases_lt k (length block)) [
    | inl inside ↦ omega (arith, filled_same k inside, below k inside)
    | inr past ↦ omega (arith, filled_zero k past, below 0 some)
  ]
