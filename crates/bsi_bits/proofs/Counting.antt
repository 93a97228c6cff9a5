-- The ones in packed words are the bits that are set.
use Rattle.std.proofs.Common.{◌≡◌, ℕ, ◌+◌, ◌-◌, ◌*◌, ◌/◌, ◌%◌, ◌^◌, ◌<◌, ◌≤◌, zero, suc, false, cond, List, length, get_or, take, ap, ap₂, sym, ◌∙◌, refl, arith, mod-eq_of_lt}
use Rattle.std.specs.Prelude.{◌==◌, sum_by, count_by, count_ones}
use Rattle.std.specs.Int.{bit_at}
use Rattle.std.proofs.lemmas.Nat.{ones_cat, mod-pow-add, mod_below, pow_pos}
use Rattle.std.proofs.lemmas.Nat.Bits.{bit_at-lt}
use Rattle.std.proofs.lemmas.List.{take_all}
use Rattle.std.proofs.lemmas.List.Sums.{sum_by_more}
use Rattle.std.proofs.lemmas.List.FromFn.{sum_by-map-range_with_len_more}
use Rattle.bsi_bits.specs.Packed.{bit_of, bits_of, IsPacked}

-- how many of the first n bits of the words are set
set_before : ℕ → List ℕ → ℕ
set_before n words = count_by (λ b. b) (bits_of n words)

set_before_more : (n : ℕ) (words : List ℕ) → set_before (n + 1) words ≡ set_before n words + cond (bit_of words n) 1 0
unfolding set_before bits_of
set_before_more n words = sum_by-map-range_with_len_more (λ b. cond b 1 0) (bit_of words) 0 n n (omega arith)

digit_ones : (d : ℕ) → d < 2 → count_ones d ≡ cond (d == 1) 1 0
unfolding lib.Count.ones
digit_ones zero below = refl
digit_ones (suc zero) below = refl
digit_ones (suc (suc d)) below = absurd (omega arith)

-- the ones below place j + 1 are those below place j and the digit there
ones_more : (x j : ℕ) → count_ones (x % 2 ^ (j + 1)) ≡ count_ones (x % 2 ^ j) + cond (bit_at x j == 1) 1 0
ones_more x j =
    let next : j + 1 ≡ 1 + j = omega arith in
    let digit : count_ones (bit_at x j) ≡ cond (bit_at x j == 1) 1 0 = digit_ones (bit_at x j) (bit_at-lt x j) in
    ap (λ k. count_ones (x % 2 ^ k)) next ∙ ap count_ones (mod-pow-add x 1 j)
    ∙ ones_cat j (bit_at x j) (x % 2 ^ j) (mod_below x (2 ^ j) (pow_pos j))
    ∙ ap (λ d. d + count_ones (x % 2 ^ j)) digit ∙ omega arith

no_ones : (x : ℕ) → count_ones (x % 2 ^ 0) ≡ 0
unfolding lib.Count.ones
no_ones x = let none : x % 1 ≡ 0 = omega arith in ap count_ones none

none_set_first : (words : List ℕ) → set_before 0 words ≡ 0
unfolding set_before bits_of
none_set_first words = refl

module _ (words : List ℕ) where
  -- the bits of word k that stand below its place j
  set_in_word : (k j : ℕ) → j ≤ 64 → set_before (64 * k + j) words ≡ set_before (64 * k) words + count_ones (get_or words k 0 % 2 ^ j)
  set_in_word k zero within =
      let start : 64 * k + 0 ≡ 64 * k = omega arith in
      let none : count_ones (get_or words k 0 % 2 ^ 0) ≡ 0 = no_ones (get_or words k 0) in
      ap (λ n. set_before n words) start ∙ omega (arith, none)
  set_in_word k (suc j) within =
      let word : (64 * k + j) / 64 ≡ k = omega arith in
      let place : (64 * k + j) % 64 ≡ j = omega arith in
      let here : bit_of words (64 * k + j) ≡ (bit_at (get_or words k 0) j == 1) = ap₂ (λ q r. bit_at (get_or words q 0) r == 1) word place in
      let next : 64 * k + suc j ≡ (64 * k + j) + 1 = omega arith in
      let last : j + 1 ≡ suc j = omega arith in
      ap (λ n. set_before n words) next ∙ set_before_more (64 * k + j) words
      ∙ ap₂ (λ s b. s + cond b 1 0) (set_in_word k j (omega arith)) here
      ∙ omega arith
      ∙ ap (λ t. set_before (64 * k) words + t) (sym (ones_more (get_or words k 0) j) ∙ ap (λ i. count_ones (get_or words k 0 % 2 ^ i)) last)

  -- the bits of the first k words
  set_in_words : ((k : ℕ) → get_or words k 0 < 2 ^ 64) → (k : ℕ) → k ≤ length words → set_before (64 * k) words ≡ sum_by count_ones (take k words)
  set_in_words fits zero within = none_set_first words
  set_in_words fits (suc k) within =
      let next : 64 * suc k ≡ 64 * k + 64 = omega arith in
      let whole : get_or words k 0 % 2 ^ 64 ≡ get_or words k 0 = mod-eq_of_lt (fits k) in
      let last : k + 1 ≡ suc k = omega arith in
      ap (λ n. set_before n words) next ∙ set_in_word k 64 (omega arith)
      ∙ ap₂ (λ s x. s + count_ones x) (set_in_words fits k (omega arith)) whole
      ∙ sym (sum_by_more count_ones words k 0 (omega arith)) ∙ ap (λ i. sum_by count_ones (take i words)) last

  -- places past the bits add none
  none_set_past : (n : ℕ) → ((i : ℕ) → n ≤ i → bit_of words i ≡ false) → (m : ℕ) → set_before (n + m) words ≡ set_before n words
  none_set_past n clear zero = ap (λ k. set_before k words) (omega arith)
  none_set_past n clear (suc m) =
      let next : n + suc m ≡ (n + m) + 1 = omega arith in
      ap (λ k. set_before k words) next ∙ set_before_more (n + m) words
      ∙ ap (λ b. set_before (n + m) words + cond b 1 0) (clear (n + m) (omega arith)) ∙ omega arith ∙ none_set_past n clear m

-- the ones in packed words are as many as the bits that are set
pub count_packed : (n : ℕ) (words : List ℕ) → IsPacked n words → ((k : ℕ) → get_or words k 0 < 2 ^ 64) → sum_by count_ones words ≡ count_by (λ b. b) (bits_of n words)
unfolding set_before
count_packed n words packed fits =
    let rest : n + (64 * length words - n) ≡ 64 * length words = omega (arith, packed.few) in
    sym (set_in_words words fits (length words) (omega arith) ∙ ap (sum_by count_ones) (take_all (length words) words (omega arith)))
    ∙ ap (λ k. set_before k words) (sym rest)
    ∙ none_set_past words n packed.clear (64 * length words - n)
