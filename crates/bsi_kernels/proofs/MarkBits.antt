-- The bits of words that digits mark.
use Rattle.std.proofs.Common.{◌≡◌, ◌≢◌, ℕ, zero, suc, ◌+◌, ◌*◌, ◌%◌, ◌^◌, ◌<◌, ◌≤◌, Bool, true, false, List, [], ◌∷◌, length, map, get_or, replicate, set, take, inl, inr, ap, ap₂, sym, ◌∙◌, refl, arith, length-set}
use Rattle.std.specs.Prelude.{◌==◌, ◌&&◌, ◌||◌, bit_or, max, nat_le, nat_lt}
use Rattle.std.specs.Int.{bit_at, w64}
use Rattle.std.proofs.lemmas.Nat.{pow_pos}
use Rattle.std.proofs.lemmas.Nat.Bits.{bit_at-zero, bit_at-lt, bit_at_or, bit_at_above, bit_at_set_same, bit_at_set_other}
use Rattle.std.proofs.lemmas.List.{length-map, length-replicate, get_or-map, get_or-replicate, get_or_past, get_or-set_same, get_or-set_other, take-replicate}
use Rattle.std.proofs.lemmas.Bool.{cases_eq, cases_lt}
use Rattle.std.proofs.lemmas.Bool.Decides.{nat_tests}
use Rattle.bsi_bits.proofs.Reading.{bits_are, get_or-bits_of}
use Rattle.bsi_bits.proofs.Splicing.{below_power, one_word}
use Rattle.bsi_kernels.specs.Marks.{union_of, AreDigitMarks}

-- words that are 0, and the first of them
pub zeros : (n k : ℕ) → get_or {A = ℕ} (replicate n 0) k 0 ≡ 0
zeros n k = elim (cases_lt k n) [
  | inl inside ↦ get_or-replicate n k 0 0 inside
  | inr past ↦ get_or_past (replicate n 0) k 0 (omega (arith, length-replicate {A = ℕ} n 0))
]

pub first_zeros : (n count k : ℕ) → count ≤ n → get_or {A = ℕ} (take count (replicate n 0)) k 0 ≡ 0
first_zeros n count k within = ap (λ ws. get_or ws k 0) (take-replicate count n 0 within) ∙ zeros count k

-- bit p of word j says of each of the first n digits whether it holds there; the bits after them are off
pub record Marked (holds : ℕ → ℕ → Bool) (n : ℕ) (block words : List ℕ) : Type 0 where
  pub each : (j p : ℕ) → j < length words → (bit_at (get_or words j 0) p == 1) ≡ (nat_lt p n && holds j (get_or block p 0))

off_at : (b : ℕ) → b < 2 → (b == 1) ≡ false → b ≡ 0
off_at b below is_off = grind (arith, nat_tests)

pub lt_test : (p n : ℕ) (b : Bool) → p < n → (nat_lt p n && b) ≡ b
lt_test p n b below = grind (arith, nat_tests)

pub ge_test : (p n : ℕ) (b : Bool) → n ≤ p → (nat_lt p n && b) ≡ false
ge_test p n b from = grind (arith, nat_tests)

-- so marked by the whole block
pub marks_of : (holds : ℕ → ℕ → Bool) (n : ℕ) (block words : List ℕ) → n ≡ length block → n ≤ 64 → Marked holds n block words → AreDigitMarks holds block words
marks_of holds n block words all few marked = record {
  each = λ j within.
      sym (bits_are (length block) (get_or words j 0 ∷ []) (map (holds j) block) (length-map block (holds j)) (λ p below.
      get_or-map (holds j) block p 0 false below
      ∙ sym (one_word (get_or words j 0) p (omega arith) ∙ marked.each j p within ∙ lt_test p n (holds j (get_or block p 0)) (omega arith))));
  clear = λ j. elim (cases_lt j (length words)) [
    | inl within ↦ below_power (get_or words j 0) (length block) (λ p from.
        off_at (bit_at (get_or words j 0) p) (bit_at-lt (get_or words j 0) p) (marked.each j p within ∙ ge_test p n (holds j (get_or block p 0)) (omega arith)))
    | inr past ↦ omega (arith, get_or_past words j 0 past, pow_pos (length block))
  ];
}

-- no digit marks nothing
pub marked_none : (holds : ℕ → ℕ → Bool) (block words : List ℕ) → ((j : ℕ) → get_or words j 0 ≡ 0) → Marked holds 0 block words
marked_none holds block words clear = record {
  each = λ j p within.
      ap (λ w. bit_at w p == 1) (clear j) ∙ ap (λ b. b == 1) (bit_at-zero p) ∙ sym (ge_test p 0 (holds j (get_or block p 0)) (omega arith));
}

more_same : (p d j : ℕ) → d ≡ j → true ≡ (nat_lt p (p + 1) && (d == j))
more_same p d j same = grind (arith, nat_tests)

more_apart : (p d j : ℕ) → d ≢ j → (nat_lt p p && (d == j)) ≡ (nat_lt p (p + 1) && (d == j))
more_apart p d j apart = grind (arith, nat_tests)

other_place : (p n : ℕ) (b : Bool) → p ≢ n → (nat_lt p n && b) ≡ (nat_lt p (n + 1) && b)
other_place p n b apart = grind (arith, nat_tests)

-- one digit more
pub marked_more : (n d x : ℕ) (block words : List ℕ) → n < 64 → d < length words → d ≡ get_or block n 0 → x ≡ get_or words d 0 → Marked (λ j v. v == j) n block words
    → Marked (λ j v. v == j) (n + 1) block (set words d (bit_or x (1 * 2 ^ n % 2 ^ 64)))
marked_more n d x block words near inside digit word marked =
    let marker = bit_or x (1 * 2 ^ n % 2 ^ 64) in
    record {
      each = λ j p within.
          let in_words : j < length words = omega (arith, length-set words d marker) in
          elim (cases_eq j d) [
            | inl same ↦
                ap (λ k. bit_at (get_or (set words d marker) k 0) p == 1) same
                ∙ ap (λ w. bit_at w p == 1) (get_or-set_same words d marker 0 inside)
                ∙ elim (cases_eq p n) [
                  | inl here ↦
                      ap (λ k. bit_at marker k == 1) here
                      ∙ ap (λ b. b == 1) (bit_at_set_same w64 x n near)
                      ∙ more_same n (get_or block n 0) j (omega arith)
                      ∙ ap (λ k. nat_lt k (n + 1) && (get_or block k 0 == j)) (sym here)
                  | inr there ↦
                      ap (λ b. b == 1) (bit_at_set_other w64 x n near p there)
                      ∙ ap (λ w. bit_at w p == 1) (word ∙ ap (λ k. get_or words k 0) (sym same))
                      ∙ marked.each j p in_words
                      ∙ other_place p n (get_or block p 0 == j) there
                ]
            | inr apart ↦
                ap (λ w. bit_at w p == 1) (get_or-set_other words d j marker 0 apart)
                ∙ marked.each j p in_words
                ∙ elim (cases_eq p n) [
                  | inl here ↦
                      ap (λ k. nat_lt k n && (get_or block k 0 == j)) here
                      ∙ more_apart n (get_or block n 0) j (omega arith)
                      ∙ ap (λ k. nat_lt k (n + 1) && (get_or block k 0 == j)) (sym here)
                  | inr there ↦ other_place p n (get_or block p 0 == j) there
                ]
          ];
    }

pub or_one : (a b : ℕ) → a < 2 → b < 2 → (max a b == 1) ≡ ((a == 1) || (b == 1))
or_one a b first second = grind (arith, nat_tests)

none_within : (c : Bool) (at m : ℕ) → false ≡ (c && (nat_le at m && nat_lt m (at + 0)))
none_within true at m = grind (arith, nat_tests)
none_within false at m = refl

one_within : (c : Bool) (at n m : ℕ) → ((c && (nat_le at m && nat_lt m (at + n))) || (c && (m == at + n))) ≡ (c && (nat_le at m && nat_lt m (at + suc n)))
one_within true at n m = grind (arith, nat_tests)
one_within false at n m = refl

-- where each word tells whether a number is its own, several joined tell whether it is one of theirs
pub union_bit : (words : List ℕ) (p m bound : ℕ) (c : Bool) → ((j : ℕ) → j < bound → (bit_at (get_or words j 0) p == 1) ≡ (c && (m == j)))
    → (at n : ℕ) → at + n ≤ bound → (bit_at (union_of words at n) p == 1) ≡ (c && (nat_le at m && nat_lt m (at + n)))
union_bit words p m bound c each at zero within = ap (λ b. b == 1) (bit_at-zero p) ∙ none_within c at m
union_bit words p m bound c each at (suc n) within =
    ap (λ b. b == 1) (bit_at_or (union_of words at n) (get_or words (at + n) 0) p)
    ∙ or_one (bit_at (union_of words at n) p) (bit_at (get_or words (at + n) 0) p) (bit_at-lt (union_of words at n) p) (bit_at-lt (get_or words (at + n) 0) p)
    ∙ ap₂ ◌||◌ (union_bit words p m bound c each at n (omega arith)) (each (at + n) (omega arith))
    ∙ one_within c at n m

-- words that are marks are so marked
pub marks_marked : (holds : ℕ → ℕ → Bool) (block words : List ℕ) → length block ≤ 64 → AreDigitMarks holds block words → Marked holds (length block) block words
marks_marked holds block words few marks = record {
  each = λ j p within. elim (cases_lt p (length block)) [
    | inl below ↦
        sym (one_word (get_or words j 0) p (omega arith))
        ∙ sym (get_or-bits_of (length block) (get_or words j 0 ∷ []) p false below)
        ∙ ap (λ bits. get_or bits p false) (marks.each j within)
        ∙ get_or-map (holds j) block p 0 false below
        ∙ sym (lt_test p (length block) (holds j (get_or block p 0)) below)
    | inr past ↦
        ap (λ b. b == 1) (bit_at_above (get_or words j 0) (length block) p (marks.clear j) past)
        ∙ sym (ge_test p (length block) (holds j (get_or block p 0)) past)
  ];
}
