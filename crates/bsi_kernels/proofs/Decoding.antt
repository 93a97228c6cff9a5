-- Words that are spread by the words of binary places.
use Rattle.std.proofs.Common.{◌≡◌, ℕ, suc, ◌+◌, ◌-◌, ◌*◌, ◌/◌, ◌%◌, ◌^◌, ◌<◌, ◌≤◌, List, [], ◌∷◌, length, get_or, set, length-set, replicate, take, ◌++◌, rules, inl, inr, ap, ap₂, sym, ◌∙◌, arith, mod-eq_of_lt}
use Rattle.std.proofs.Math.Nat.{pow-le-pow_right}
use Rattle.std.specs.Prelude.{◌==◌, ◌&&◌, bit_and, min}
use Rattle.std.specs.Int.{bit_at}
use Rattle.std.specs.Simd.Lanes.{zip2, put_chunk}
use Rattle.std.proofs.lemmas.Nat.{mod-pow-add}
use Rattle.std.proofs.lemmas.Nat.Bits.{bit_at-lt, bit_at-suc, bit_at_above, bit_at_and, bit_at_lowest}
use Rattle.std.proofs.lemmas.List.{places, get_or_append_left, get_or-take, get_or-set_same, get_or-set_other, get_or-replicate, length-replicate}
use Rattle.std.proofs.lemmas.Simd.{get_or-zip2, length-zip2}
use Rattle.std.proofs.lemmas.Bool.{cases_eq, cases_lt}
use Rattle.std.proofs.lemmas.Bool.Decides.{nat_tests}
use Rattle.bsi_bits.proofs.Filling.{IsFilled, filled_store}
use Rattle.bsi_kernels.specs.Marks.{decoded, AreDigitMarks}
use Rattle.bsi_kernels.specs.Places.{then_places}
use Rattle.bsi_kernels.proofs.MarkBits.{ge_test, lt_test, marks_of}
use Rattle.bsi_kernels.proofs.PlaceBitmaps.{own_test, place_test}
use borrow.Rule.Slice.PartMut.{put_mid}

pub flipped : (b bit : ℕ) → b < 2 → bit ≡ 0 → (1 - b == 1) ≡ (b == bit)
flipped b bit small off = grind (arith, nat_tests)

and_one : (a b : ℕ) → a < 2 → b < 2 → (min a b == 1) ≡ ((a == 1) && (b == 1))
and_one a b first second = grind (arith, nat_tests)

-- a bit that two words have
pub and_bit : (a b k : ℕ) → (bit_at (bit_and a b) k == 1) ≡ ((bit_at a k == 1) && (bit_at b k == 1))
and_bit a b k = ap (λ x. x == 1) (bit_at_and a b k) ∙ and_one (bit_at a k) (bit_at b k) (bit_at-lt a k) (bit_at-lt b k)

three_bits : (a b c j : ℕ) → a < 2 → b < 2 → c < 2 → j < 8 → (((a == j % 2) && (b == j / 2 % 2)) && (c == j / 4)) ≡ (a + 2 * (b + 2 * (c + 2 * 0)) == j)
three_bits a b c j first second third few = grind (arith, nat_tests)

-- three words, each chosen by a place of a number
spelled_three : (first second third a b c j k : ℕ) → j < 8 → (bit_at a k == 1) ≡ (bit_at first k == j % 2) → (bit_at b k == 1) ≡ (bit_at second k == j / 2 % 2)
    → (bit_at c k == 1) ≡ (bit_at third k == j / 4) → (bit_at (bit_and (bit_and a b) c) k == 1) ≡ (decoded (first ∷ second ∷ third ∷ []) k == j)
spelled_three first second third a b c j k few one two three =
    and_bit (bit_and a b) c k ∙ ap (λ x. x && (bit_at c k == 1)) (and_bit a b k) ∙ ap₂ ◌&&◌ (ap₂ ◌&&◌ one two) three
    ∙ three_bits (bit_at first k) (bit_at second k) (bit_at third k) j (bit_at-lt first k) (bit_at-lt second k) (bit_at-lt third k) few

-- the words of the numbers before j are those of the digits that three places spell so
pub record AreSpelled (first second third j : ℕ) (words : List ℕ) : Type 0 where
  pub long : length words ≡ 8
  pub done : (i k : ℕ) → i < j → k < 64 → (bit_at (get_or words i 0) k == 1) ≡ (decoded (first ∷ second ∷ third ∷ []) k == i)

pub spelled_more : (first second third a b c j : ℕ) (words : List ℕ) → j < 8 → ((k : ℕ) → k < 64 → (bit_at a k == 1) ≡ (bit_at first k == j % 2))
    → ((k : ℕ) → k < 64 → (bit_at b k == 1) ≡ (bit_at second k == j / 2 % 2)) → ((k : ℕ) → k < 64 → (bit_at c k == 1) ≡ (bit_at third k == j / 4))
    → AreSpelled first second third j words → AreSpelled first second third (j + 1) (set words j (bit_and (bit_and a b) c))
spelled_more first second third a b c j words few one two three are =
    let word = bit_and (bit_and a b) c in
    record {
      long = length-set words j word ∙ are.long;
      done = λ i k below near. elim (cases_eq i j) [
        | inl same ↦
            ap (λ m. bit_at (get_or (set words j word) m 0) k == 1) same
            ∙ ap (λ w. bit_at w k == 1) (get_or-set_same words j word 0 (omega (arith, are.long)))
            ∙ spelled_three first second third a b c j k few (one k near) (two k near) (three k near)
            ∙ ap (λ m. decoded (first ∷ second ∷ third ∷ []) k == m) (sym same)
        | inr apart ↦ ap (λ w. bit_at w k == 1) (get_or-set_other words j i word 0 apart) ∙ are.done i k (omega arith) near
      ];
    }

-- the word of a number, by those of its lower and its upper places
abbrev pub at_both : List ℕ → List ℕ → ℕ → ℕ → ℕ
at_both low high j old = bit_and (get_or low (j % 8) 0) (get_or high (j / 8) 0)

-- eight words more
pub eight_more : (low high old now : List ℕ) (h : ℕ) → length low ≡ 8 → 8 * (h + 1) ≤ length old → IsFilled (at_both low high) (8 * h) old now
    → IsFilled (at_both low high) (8 * (h + 1)) old (put_chunk (8 * h) now (zip2 bit_and low (replicate 8 (get_or high h 0))))
eight_more low high old now h eight within filled =
    let word = get_or high h 0 in
    filled_store (at_both low high) (8 * h) old now filled 8 (8 * (h + 1)) (zip2 bit_and low (replicate 8 word)) (omega arith) within
    (length-zip2 bit_and low (replicate 8 word) (eight ∙ sym (length-replicate 8 word)) ∙ eight) (λ j below.
    let lower : j ≡ (8 * h + j) % 8 = omega arith in
    let upper : h ≡ (8 * h + j) / 8 = omega arith in
    get_or-zip2 bit_and low (replicate 8 word) j 0 0 0 (omega arith) (omega (arith, length-replicate {A = ℕ} 8 word))
    ∙ ap₂ bit_and (ap (λ i. get_or low i 0) lower) (get_or-replicate 8 j word 0 below ∙ ap (λ i. get_or high i 0) upper))

two_parts : (l h j : ℕ) → l < 8 → ((l == j % 8) && (h == j / 8)) ≡ (l + 8 * h == j)
two_parts l h j small = grind (arith, nat_tests)

-- six places are three and three
six_places : (places : List ℕ) (k : ℕ) → length places ≡ 6
    → decoded (get_or places 0 0 ∷ get_or places 1 0 ∷ get_or places 2 0 ∷ []) k + 8 * decoded (get_or places 3 0 ∷ get_or places 4 0 ∷ get_or places 5 0 ∷ []) k ≡ decoded places k
six_places [] k long = absurd (omega (arith, long))
six_places (a ∷ []) k long = absurd (omega (arith, long))
six_places (a ∷ b ∷ []) k long = absurd (omega (arith, long))
six_places (a ∷ b ∷ c ∷ []) k long = absurd (omega (arith, long))
six_places (a ∷ b ∷ c ∷ d ∷ []) k long = absurd (omega (arith, long))
six_places (a ∷ b ∷ c ∷ d ∷ e ∷ []) k long = absurd (omega (arith, long))
six_places (a ∷ b ∷ c ∷ d ∷ e ∷ f ∷ []) k long = omega arith
six_places (a ∷ b ∷ c ∷ d ∷ e ∷ f ∷ g ∷ more) k long = absurd (omega (arith, long))

-- three places spell a number below 8
three_small : (a b c k : ℕ) → decoded (a ∷ b ∷ c ∷ []) k < 8
three_small a b c k = omega (arith, bit_at-lt a k, bit_at-lt b k, bit_at-lt c k)

-- all words are written
pub both_spelled : (places low high words : List ℕ) (j k : ℕ) → length places ≡ 6 → j < 64 → k < 64
    → ((i k : ℕ) → i < 8 → k < 64 → (bit_at (get_or low i 0) k == 1) ≡ (decoded (get_or places 0 0 ∷ get_or places 1 0 ∷ get_or places 2 0 ∷ []) k == i))
    → ((i k : ℕ) → i < 8 → k < 64 → (bit_at (get_or high i 0) k == 1) ≡ (decoded (get_or places 3 0 ∷ get_or places 4 0 ∷ get_or places 5 0 ∷ []) k == i))
    → get_or words j 0 ≡ at_both low high j 0 → (bit_at (get_or words j 0) k == 1) ≡ (decoded places k == j)
both_spelled places low high words j k six few near lower upper word =
    let l = decoded (get_or places 0 0 ∷ get_or places 1 0 ∷ get_or places 2 0 ∷ []) k in
    let h = decoded (get_or places 3 0 ∷ get_or places 4 0 ∷ get_or places 5 0 ∷ []) k in
    ap (λ w. bit_at w k == 1) word ∙ and_bit (get_or low (j % 8) 0) (get_or high (j / 8) 0) k
    ∙ ap₂ ◌&&◌ (lower (j % 8) k (omega arith) near) (upper (j / 8) k (omega arith) near)
    ∙ two_parts l h j (three_small (get_or places 0 0) (get_or places 1 0) (get_or places 2 0) k)
    ∙ ap (λ v. v == j) (six_places places k six)

-- words that have the binary places of a number spell it, but for its other places
spelled_number : (places : List ℕ) (k v : ℕ) → ((p : ℕ) → p < length places → bit_at (get_or places p 0) k ≡ bit_at v p) → decoded places k ≡ v % 2 ^ length places
spelled_number [] k v each = omega arith
spelled_number (place ∷ places) k v each =
    let n = length places in
    let next : suc n ≡ n + 1 = omega arith in
    let rest = spelled_number places k (v / 2) (λ p below. each (suc p) (omega arith) ∙ bit_at-suc v p) in
    omega (arith, each 0 (omega arith), bit_at_lowest v, rest, mod-pow-add v n 1, ap (λ i. v % 2 ^ i) next)

-- so spread, and with the words of the places behind them
pub scatter_marks : (base : ℕ) (block places words : List ℕ) → length block ≡ 64 → length places ≡ 6 → base ≤ 64 → length words ≤ base + 6
    → ((p : ℕ) → p < length block → get_or block p 0 < base) → ((p k : ℕ) → p < 6 → k < 64 → bit_at (get_or places p 0) k ≡ bit_at (get_or block k 0) p)
    → ((j k : ℕ) → j < base → k < 64 → (bit_at (get_or words j 0) k == 1) ≡ (decoded places k == j))
    → ((p : ℕ) → base + p < length words → get_or words (base + p) 0 ≡ get_or places p 0) → ((j : ℕ) → get_or words j 0 < 2 ^ 64)
    → AreDigitMarks (then_places base (λ j v. v == j)) block words
scatter_marks base block places words whole six small few below placed scatter_places behind fits =
    let digit : (k : ℕ) → k < 64 → decoded places k ≡ get_or block k 0 = λ k near.
    spelled_number places k (get_or block k 0) (λ p inside. placed p k (omega (arith, six)) near)
    ∙ ap (λ n. get_or block k 0 % 2 ^ n) six ∙ mod-eq_of_lt (omega (arith, below k (omega (arith, whole)))) in
    marks_of (then_places base (λ j v. v == j)) 64 block words (sym whole) (omega arith) (record {
      each = λ j k within. elim (cases_lt k 64) [
        | inr past ↦ ap (λ b. b == 1) (bit_at_above (get_or words j 0) 64 k (fits j) past) ∙ sym (ge_test k 64 (then_places base (λ j v. v == j) j (get_or block k 0)) past)
        | inl near ↦ elim (cases_lt j base) [
          | inl inside ↦
              scatter_places j k inside near ∙ ap (λ v. v == j) (digit k near) ∙ sym (own_test base (λ j v. v == j) j (get_or block k 0) inside)
              ∙ sym (lt_test k 64 (then_places base (λ j v. v == j) j (get_or block k 0)) near)
          | inr above ↦
              let back : base + (j - base) ≡ j = omega arith in
              ap (λ i. bit_at (get_or words i 0) k == 1) (sym back)
              ∙ ap (λ w. bit_at w k == 1) (behind (j - base) (omega arith))
              ∙ ap (λ b. b == 1) (placed (j - base) k (omega arith) near)
              ∙ sym (place_test base (λ j v. v == j) j (get_or block k 0) above)
              ∙ sym (lt_test k 64 (then_places base (λ j v. v == j) j (get_or block k 0)) near)
        ]
      ];
    })

-- six places suffice for a base of at most 64
pub base_small : (base n : ℕ) → base ≤ 2 ^ (n - base) → n ≤ base + 6 → base ≤ 64
base_small base n enough few =
    let places_few : n - base ≤ 6 = omega arith in
    let most : 2 ^ (n - base) ≤ 2 ^ 6 = pow-le-pow_right (omega arith) places_few in
    omega arith

-- the words of the digits before a base, and those of its places behind them
module _ (base n : ℕ) (front back prefix six : List ℕ) (front_is : length front ≡ base) (is : prefix ≡ take n six) (long : length prefix ≡ n) (within : base + n ≤ length (front ++ back)) where
  pub put_front : (j : ℕ) → j < base → get_or (put_mid base n (front ++ back) prefix) j 0 ≡ get_or front j 0
  put_front j inside =
      let unchanged : get_or (put_mid base n (front ++ back) prefix) j 0 ≡ get_or (front ++ back) j 0 = search (rules, places) in
      unchanged ∙ get_or_append_left front back 0 j (omega arith)

  pub put_places : (p : ℕ) → p < n → get_or (put_mid base n (front ++ back) prefix) (base + p) 0 ≡ get_or six p 0
  put_places p inside =
      let written : get_or (put_mid base n (front ++ back) prefix) (base + p) 0 ≡ get_or prefix p 0 = search (rules, places) in
      written ∙ ap (λ ws. get_or ws p 0) is ∙ get_or-take n six p 0 inside
