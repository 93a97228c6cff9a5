-- One word of a span, and its rows that have a digit.
use Rattle.std.proofs.Common.{◌≡◌, ℕ, ◌+◌, ◌-◌, ◌*◌, ◌/◌, ◌%◌, ◌^◌, ◌<◌, ◌≤◌, Bool, true, List, [], ◌∷◌, length, get_or, nat_eq, min, ap, ap₂, sym, ◌∙◌, arith, ◌==◌}
use Rattle.std.specs.Prelude.{bit_and, ◌&&◌}
use Rattle.std.specs.Int.{bit_at, trailing_zeros, w64}
use Rattle.std.proofs.lemmas.Bool.Decides.{nat_tests}
use Rattle.std.proofs.lemmas.Nat.{and_le_r}
use Rattle.std.proofs.lemmas.Nat.Bits.{bit_at-lt, bit_at-trailing_zeros, bit_at-zero, bit_at_and}
use Rattle.bsi_bits.specs.SetRows.{HasRow, HasValue}
use Rattle.bsi_bits.specs.Packed.{bit_of}

-- bit q of word k
word_place : (words : List ℕ) (k q : ℕ) → q < 64 → bit_of words (64 * k + q) ≡ (bit_at (get_or words k 0) q == 1)
word_place words k q small =
    let word : (64 * k + q) / 64 ≡ k = omega arith in
    let place : (64 * k + q) % 64 ≡ q = omega arith in
    ap₂ (λ i j. bit_at (get_or words i 0) j == 1) word place

first_place : (words : List ℕ) (q : ℕ) → q < 64 → bit_of words q ≡ (bit_at (get_or words 0 0) q == 1)
first_place words q small =
    let word : q / 64 ≡ 0 = omega arith in
    let place : q % 64 ≡ q = omega arith in
    ap₂ (λ i j. bit_at (get_or words i 0) j == 1) word place

clash : (a b : ℕ) → (a == 1) ≡ true → (b == 1) ≡ true → min a b ≡ 0 → ⊥
clash a b first second none = grind (arith, nat_tests, first, second, none)

second_of : (a b : ℕ) → a < 2 → b < 2 → min a b ≡ 1 → (b == 1) ≡ true
second_of a b low high both = grind (arith, nat_tests, both)

first_of_two : (a b : ℕ) → a < 2 → b < 2 → min a b ≡ 1 → (a == 1) ≡ true
first_of_two a b low high both = grind (arith, nat_tests, both)

-- the word that is kept has the rows with the digit, and may have others past the last row
module _ (digits : List ℕ) (d at : ℕ) (span : List ℕ) (k : ℕ) (matched : List ℕ) (within : k < length span)
    (rows : (p : ℕ) → p < 64 * length span → bit_of span p ≡ true → 64 * at + p < length digits)
    (narrowed : (q : ℕ) → q < 64 → 64 * (at + k) + q < length digits
    → bit_of matched q ≡ (bit_of (get_or span k 0 ∷ []) q && nat_eq (get_or digits (64 * (at + k) + q) 0) d)) where
  read : (q : ℕ) → q < 64 → bit_of span (64 * k + q) ≡ true
      → (bit_at (get_or matched 0 0) q == 1) ≡ (bit_of span (64 * k + q) && nat_eq (get_or digits (64 * at + (64 * k + q)) 0) d)
  read q small set =
      let row : 64 * at + (64 * k + q) < length digits = rows (64 * k + q) (omega arith) set in
      let same : 64 * (at + k) + q ≡ 64 * at + (64 * k + q) = omega arith in
      sym (first_place matched q small) ∙ narrowed q small (omega (arith, row))
      ∙ ap₂ (λ b i. b && nat_eq (get_or digits i 0) d) (first_place (get_or span k 0 ∷ []) q small ∙ sym (word_place span k q small)) same

  pub none_here : bit_and (get_or matched 0 0) (get_or span k 0) ≡ 0 → (p : ℕ) → 64 * k ≤ p → p < 64 * (k + 1) → bit_of span p ≡ true
      → get_or digits (64 * at + p) 0 ≡ d → ⊥
  none_here none p low high set is =
      let q : ℕ = p - 64 * k in
      let small : q < 64 = omega arith in
      let there : p ≡ 64 * k + q = omega arith in
      let here : bit_of span (64 * k + q) ≡ true = ap (bit_of span) (sym there) ∙ set in
      let digit : get_or digits (64 * at + (64 * k + q)) 0 ≡ d = ap (λ i. get_or digits (64 * at + i) 0) (sym there) ∙ is in
      let both : (bit_at (get_or matched 0 0) q == 1) ≡ true = read q small here ∙ ap₂ (λ b v. b && nat_eq v d) here digit ∙ grind (arith, nat_tests) in
      clash (bit_at (get_or matched 0 0) q) (bit_at (get_or span k 0) q) both (sym (word_place span k q small) ∙ here)
      (sym (bit_at_and (get_or matched 0 0) (get_or span k 0) q) ∙ ap (λ m. bit_at m q) none ∙ bit_at-zero q)

  pub some_here : get_or span k 0 < 2 ^ 64 → (bit_and (get_or matched 0 0) (get_or span k 0) ≡ 0 → ⊥)
      → HasRow (λ p. bit_of span p && nat_eq (get_or digits (64 * at + p) 0) d) (64 * length span)
  some_here fits some =
      let m : ℕ = bit_and (get_or matched 0 0) (get_or span k 0) in
      let lowest = bit_at-trailing_zeros w64 m (omega (arith, some)) (omega (arith, fits, and_le_r (get_or matched 0 0) (get_or span k 0))) in
      let q : ℕ = trailing_zeros w64 m in
      let small : q < 64 = lowest.0 in
      let both : min (bit_at (get_or matched 0 0) q) (bit_at (get_or span k 0) q) ≡ 1 = sym (bit_at_and (get_or matched 0 0) (get_or span k 0) q) ∙ lowest.1 in
      let set : bit_of span (64 * k + q) ≡ true = word_place span k q small
      ∙ second_of (bit_at (get_or matched 0 0) q) (bit_at (get_or span k 0) q) (bit_at-lt _ q) (bit_at-lt _ q) both in
      (64 * k + q, omega (arith, small), sym (read q small set) ∙ first_of_two (bit_at (get_or matched 0 0) q) (bit_at (get_or span k 0) q) (bit_at-lt _ q) (bit_at-lt _ q) both)

equal_of : (b : Bool) (v d : ℕ) → (b && nat_eq v d) ≡ true → (b ≡ true) × (v ≡ d)
equal_of b v d both = grind (arith, nat_tests, both)

-- a row that has the digit is one whose digit is this one
pub row_with : (rows : ℕ → Bool) (digit : ℕ → ℕ) (n d : ℕ) → HasRow (λ p. rows p && nat_eq (digit p) d) n → HasValue rows digit n d
row_with rows digit n d row = let parts = equal_of (rows row.0) (digit row.0) d row.2 in (row.0, row.1, parts.0, parts.1)
