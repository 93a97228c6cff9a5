-- Several bits of a word appended to packed words.
use Rattle.std.proofs.Common.{◌≡◌, ◌≢◌, ℕ, ◌+◌, ◌-◌, ◌*◌, ◌/◌, ◌%◌, ◌^◌, ◌<◌, ◌≤◌, false, List, [], ◌∷◌, ◌++◌, length, get_or, set, inl, inr, ap, ap₂, sym, ◌∙◌, refl, arith, length-append, length-set}
use Rattle.std.specs.Prelude.{◌==◌, bit_or, max}
use Rattle.std.specs.Int.{bit_at}
use Rattle.std.proofs.lemmas.Nat.{shr_split, pow_pos, mod_below}
use Rattle.std.proofs.lemmas.Nat.Bits.{bit_at-zero, bit_at_or, bit_at_above, bit_at_cat_low, bit_at_cat_high, bit_at-lt, same_from_bits}
use Rattle.std.proofs.lemmas.List.{get_or_append_left, get_or-append_right}
use Rattle.std.proofs.lemmas.Bool.Decides.{nat_tests}
use Rattle.std.proofs.lemmas.Grind.{get_or_default_zero}
use Rattle.std.proofs.lemmas.Bool.{cases_eq, cases_lt}
use Rattle.bsi_bits.specs.Packed.{bit_of, bits_of, IsPacked}
use Rattle.bsi_bits.proofs.Reading.{bits_are, length-bits_of, get_or-bits_of}
use Rattle.bsi_bits.proofs.Places.{bit_past, bit_in_written, bit_in_other, bit_before, bit_in_last, bit_unchanged, bit_dropped}

-- the new words have the old bits before place n, and those of the word from there on
pub record Splices (n count word : ℕ) (old new : List ℕ) : Type 0 where
  pub few : length new ≡ (n + count + 63) / 64
  pub unchanged : (i : ℕ) → i < n → bit_of new i ≡ bit_of old i
  pub spliced : (j : ℕ) → bit_of new (n + j) ≡ (bit_at word j == 1)

off : (b : ℕ) → b ≡ 0 → (b == 1) ≡ false
off b zero = ap (λ x. x == 1) zero

-- a word with no bit from place r on is below two to the power of r
pub below_power : (x r : ℕ) → ((p : ℕ) → r ≤ p → bit_at x p ≡ 0) → x < 2 ^ r
below_power x r clear =
    let same : x ≡ x % 2 ^ r = same_from_bits x (x % 2 ^ r) (λ p. elim (cases_lt p r) [
      | inl below ↦ sym (bit_unchanged x r p below)
      | inr from ↦ clear p from ∙ sym (bit_dropped x r p from)
    ]) in
    omega (arith, same, mod_below x (2 ^ r) (pow_pos r))

pub spliced_packed : (n count word : ℕ) (old new : List ℕ) → n + count ≤ 2 ^ 32 → word < 2 ^ count → Splices n count word old new → IsPacked (n + count) new
spliced_packed n count word old new within clear splices = record {
  within = within;
  few = splices.few;
  clear = λ i past.
      let place : i ≡ n + (i - n) = omega arith in
      ap (bit_of new) place
      ∙ splices.spliced (i - n)
      ∙ off (bit_at word (i - n)) (bit_at_above word count (i - n) clear (omega arith));
}

-- a place of a word by itself
pub one_word : (word j : ℕ) → j < 64 → bit_of (word ∷ []) j ≡ (bit_at word j == 1)
one_word word j below =
    let first : j / 64 ≡ 0 = omega arith in
    let place : j % 64 ≡ j = omega arith in
    ap₂ (λ k r. bit_at (get_or (word ∷ []) k 0) r == 1) first place

pub spliced_bits : (n count word : ℕ) (old new : List ℕ) → count ≤ 64 → Splices n count word old new → bits_of (n + count) new ≡ bits_of n old ++ bits_of count (word ∷ [])
spliced_bits n count word old new few splices =
    let long_old = length-bits_of n old in
    let long_word = length-bits_of count (word ∷ []) in
    sym (bits_are (n + count) new (bits_of n old ++ bits_of count (word ∷ []))
    (length-append (bits_of n old) (bits_of count (word ∷ [])) ∙ ap₂ ◌+◌ long_old long_word)
    (λ i below. elim (cases_lt i n) [
      | inl before ↦
          get_or_append_left (bits_of n old) (bits_of count (word ∷ [])) false i (omega (arith, long_old))
          ∙ get_or-bits_of n old i false before
          ∙ sym (splices.unchanged i before)
      | inr from ↦
          let place : n + (i - n) ≡ i = omega arith in
          get_or-append_right (bits_of n old) (bits_of count (word ∷ [])) n i false long_old from
          ∙ get_or-bits_of count (word ∷ []) (i - n) false (omega arith)
          ∙ one_word word (i - n) (omega arith)
          ∙ sym (splices.spliced (i - n))
          ∙ ap (bit_of new) place
    ]))

-- a word moved up, and moved down
pub bit_raised : (x r i : ℕ) → i < 64 → r ≤ i → bit_at (x * 2 ^ r % 2 ^ 64) i ≡ bit_at x (i - r)
bit_raised x r i below from =
    let more : x * 2 ^ r ≡ x * 2 ^ r + 0 = omega arith in
    bit_unchanged (x * 2 ^ r) 64 i below
    ∙ ap (λ y. bit_at y i) more
    ∙ bit_at_cat_high x r 0 i (pow_pos r) from

pub bit_under : (x r i : ℕ) → i < 64 → i < r → bit_at (x * 2 ^ r % 2 ^ 64) i ≡ 0
bit_under x r i below under =
    let more : x * 2 ^ r ≡ x * 2 ^ r + 0 = omega arith in
    bit_unchanged (x * 2 ^ r) 64 i below
    ∙ ap (λ y. bit_at y i) more
    ∙ bit_at_cat_low x r 0 i under
    ∙ bit_at-zero i

pub bit_lowered : (x k i : ℕ) → bit_at (x / 2 ^ k) i ≡ bit_at x (i + k)
bit_lowered x k i =
    let place : i ≡ i + k - k = omega arith in
    ap (bit_at (x / 2 ^ k)) place
    ∙ sym (bit_at_cat_high (x / 2 ^ k) k (x % 2 ^ k) (i + k) (mod_below x (2 ^ k) (pow_pos k)) (omega arith))
    ∙ ap (λ y. bit_at y (i + k)) (shr_split x k)

max_zero : (x : ℕ) → max x 0 ≡ x
max_zero x = omega arith

zero_max : (x : ℕ) → max 0 x ≡ x
zero_max x = omega arith

zero_from_off : (b : ℕ) → b < 2 → (b == 1) ≡ false → b ≡ 0
zero_from_off b below is_off = grind (arith, nat_tests)

module _ (n count word : ℕ) (words : List ℕ) (few : count ≤ 64) (clear : word < 2 ^ count) (packed : IsPacked n words) where
  off_past : (j : ℕ) → count ≤ j → false ≡ (bit_at word j == 1)
  off_past j past = sym (off (bit_at word j) (bit_at_above word count j clear past))

  -- no bit at all
  pub splices_none : count ≡ 0 → Splices n count word words words
  splices_none none = record {
    few = omega (arith, none, packed.few);
    unchanged = λ i below. refl;
    spliced = λ j. packed.clear (n + j) (omega arith) ∙ off_past j (omega arith);
  }

  -- a word of their own
  pub splices_after : n % 64 ≡ 0 → 0 < count → Splices n count word words (words ++ word ∷ [])
  splices_after first some = record {
    few = length-append words (word ∷ []) ∙ omega (arith, packed.few);
    unchanged = λ i below. bit_before words word i (omega (arith, packed.few));
    spliced = λ j. elim (cases_lt j 64) [
      | inl near ↦
          let place : (n + j) % 64 ≡ j = omega arith in
          bit_in_last words word (n + j) (omega (arith, packed.few))
          ∙ ap (λ r. bit_at word r == 1) place
      | inr far ↦
          bit_past (words ++ word ∷ []) (n + j) (omega (arith, packed.few, length-append words (word ∷ [])))
          ∙ off_past j (omega arith)
    ];
  }

  module _ (further : n % 64 ≢ 0) (x : ℕ) (last : x ≡ get_or words (n / 64) x) where
    abbrev raised : ℕ
    raised = word * 2 ^ (n % 64) % 2 ^ 64

    abbrev pub in_last : List ℕ
    in_last = set words (n / 64) (bit_or x raised)

    inside : n / 64 < length words
    inside = omega (arith, packed.few)

    old_place : (i : ℕ) → i / 64 ≡ n / 64 → (bit_at x (i % 64) == 1) ≡ bit_of words i
    old_place i same = ap (λ w. bit_at w (i % 64) == 1) (last ∙ get_or_default_zero words (n / 64) x inside ∙ ap (λ k. get_or words k 0) (sym same))

    both : (i : ℕ) → i / 64 ≡ n / 64 → bit_of in_last i ≡ (max (bit_at x (i % 64)) (bit_at raised (i % 64)) == 1)
    both i same = bit_in_written words (n / 64) (bit_or x raised) inside i same ∙ ap (λ b. b == 1) (bit_at_or x raised (i % 64))

    last_unchanged : (i : ℕ) → i < n → bit_of in_last i ≡ bit_of words i
    last_unchanged i below = elim (cases_eq (i / 64) (n / 64)) [
      | inl same ↦
          both i same
          ∙ ap (λ b. max (bit_at x (i % 64)) b == 1) (bit_under word (n % 64) (i % 64) (omega arith) (omega arith))
          ∙ ap (λ b. b == 1) (max_zero (bit_at x (i % 64)))
          ∙ old_place i same
      | inr apart ↦ bit_in_other words (n / 64) (bit_or x raised) i apart
    ]

    last_spliced : (j : ℕ) → n % 64 + j < 64 → bit_of in_last (n + j) ≡ (bit_at word j == 1)
    last_spliced j near =
        let same : (n + j) / 64 ≡ n / 64 = omega arith in
        let place : (n + j) % 64 - n % 64 ≡ j = omega arith in
        let was_off : bit_at x ((n + j) % 64) ≡ 0 = zero_from_off (bit_at x ((n + j) % 64)) (bit_at-lt x ((n + j) % 64)) (old_place (n + j) same ∙ packed.clear (n + j) (omega arith)) in
        both (n + j) same
        ∙ ap₂ (λ a b. max a b == 1) was_off (bit_raised word (n % 64) ((n + j) % 64) (omega arith) (omega arith))
        ∙ ap (λ b. b == 1) (zero_max (bit_at word ((n + j) % 64 - n % 64)) ∙ ap (bit_at word) place)

    long_last : length in_last ≡ n / 64 + 1
    long_last = length-set words (n / 64) (bit_or x raised) ∙ packed.few ∙ omega arith

    -- further places of the last word
    pub splices_within : n % 64 + count ≤ 64 → Splices n count word words in_last
    splices_within enough = record {
      few = long_last ∙ omega arith;
      unchanged = last_unchanged;
      spliced = λ j. elim (cases_lt (n % 64 + j) 64) [
        | inl near ↦ last_spliced j near
        | inr far ↦ bit_past in_last (n + j) (omega (arith, long_last)) ∙ off_past j (omega arith)
      ];
    }

    -- and the first ones of a word after it
    pub splices_over : 64 < n % 64 + count → Splices n count word words (in_last ++ (word / 2 ^ (64 - n % 64)) ∷ [])
    splices_over over =
        let rest = word / 2 ^ (64 - n % 64) in
        let long = length-append in_last (rest ∷ []) in
        record {
          few = long ∙ omega (arith, long_last);
          unchanged = λ i below. bit_before in_last rest i (omega (arith, long_last)) ∙ last_unchanged i below;
          spliced = λ j. elim (cases_lt (n % 64 + j) 64) [
            | inl near ↦ bit_before in_last rest (n + j) (omega (arith, long_last)) ∙ last_spliced j near
            | inr far ↦ elim (cases_lt (n % 64 + j) 128) [
              | inl next ↦
                  let place : (n + j) % 64 + (64 - n % 64) ≡ j = omega arith in
                  bit_in_last in_last rest (n + j) (omega (arith, long_last))
                  ∙ ap (λ b. b == 1) (bit_lowered word (64 - n % 64) ((n + j) % 64)
                  ∙ ap (bit_at word) place)
              | inr past ↦ bit_past (in_last ++ rest ∷ []) (n + j) (omega (arith, long, long_last)) ∙ off_past j (omega arith)
            ]
          ];
        }
