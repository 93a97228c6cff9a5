-- The words of the binary places of a block of digits.
use Rattle.std.proofs.Common.{◌≡◌, ℕ, ◌+◌, ◌-◌, ◌*◌, ◌%◌, ◌^◌, ◌<◌, ◌≤◌, Bool, true, false, List, length, length-set, take, drop, get_or, set, inl, inr, ap, ap₂, sym, ◌∙◌, refl, arith, mod-eq_of_lt, subst}
use Rattle.std.specs.Prelude.{◌==◌, ◌&&◌, ◌||◌, bit_or, nat_le, nat_lt}
use Rattle.std.specs.Int.{bit_at}
use Rattle.std.proofs.lemmas.Nat.{mod_below, pow-add, pow_pos}
use Rattle.std.proofs.lemmas.Nat.Bits.{bit_at-zero, bit_at-lt, bit_at_or}
use Rattle.std.proofs.lemmas.List.{get_or-drop, get_or-set_same, get_or-set_other, length-drop, take_all}
use Rattle.std.proofs.lemmas.Bool.{cases_eq, cases_lt}
use Rattle.std.proofs.lemmas.Bool.Decides.{nat_tests}
use Rattle.bsi_kernels.specs.Places.{has_place, then_places}
use Rattle.bsi_kernels.specs.Marks.{union_of, AreDigitMarks}
use Rattle.bsi_kernels.proofs.MarkBits.{marks_marked, marks_of, or_one, union_bit}
use Rattle.bsi_kernels.proofs.PlaceSums.{places_more}
use Rattle.bsi_kernels.proofs.PlaceBitmaps.{moved, own_test, place_test}

-- the words mark the digits below a base
pub record MarkBase (base n : ℕ) (block words : List ℕ) : Type 0 where
  pub below : (p : ℕ) → p < n → get_or block p 0 < base
  pub each : (j p : ℕ) → j < base → (bit_at (get_or words j 0) p == 1) ≡ (nat_lt p n && (get_or block p 0 == j))

-- the words before 2 ^ k mark the digits by their lowest k places
pub record MarkLow (k n : ℕ) (block words : List ℕ) : Type 0 where
  pub each : (j p : ℕ) → j < 2 ^ k → (bit_at (get_or words j 0) p == 1) ≡ (nat_lt p n && (get_or block p 0 % 2 ^ k == j))

lt_off : (p n : ℕ) (b : Bool) → n ≤ p → (nat_lt p n && b) ≡ false
lt_off p n b from = grind (arith, nat_tests)

lt_same : (p n : ℕ) (a b : Bool) → (p < n → a ≡ b) → (nat_lt p n && a) ≡ (nat_lt p n && b)
lt_same p n a b same = elim (cases_lt p n) [
  | inl below ↦ ap (λ x. nat_lt p n && x) (same below)
  | inr past ↦ lt_off p n a past ∙ sym (lt_off p n b past)
]

not_one : (v j : ℕ) → v < j → false ≡ (v == j)
not_one v j below = grind (arith, nat_tests)

-- digits below the base are their own lowest places
pub low_all : (base k n : ℕ) (block words folded : List ℕ) → base ≤ 2 ^ k → MarkBase base n block words
    → ((j : ℕ) → j < base → get_or folded j 0 ≡ get_or words j 0) → ((j : ℕ) → base ≤ j → get_or folded j 0 ≡ 0) → MarkLow k n block folded
low_all base k n block words folded enough marks copied clear = record {
  each = λ j p within.
      let v = get_or block p 0 in
      let whole : (p < n) → v % 2 ^ k ≡ v = λ near. mod-eq_of_lt (omega (arith, marks.below p near)) in
      elim (cases_lt j base) [
        | inl own ↦
            ap (λ w. bit_at w p == 1) (copied j own) ∙ marks.each j p own
            ∙ lt_same p n (v == j) (v % 2 ^ k == j) (λ near. ap (λ x. x == j) (sym (whole near)))
        | inr above ↦
            ap (λ w. bit_at w p == 1) (clear j above) ∙ ap (λ b. b == 1) (bit_at-zero p)
            ∙ sym (lt_same p n (v % 2 ^ k == j) false (λ near. ap (λ x. x == j) (whole near) ∙ sym (not_one v j (omega (arith, marks.below p near)))) ∙ and_off (nat_lt p n))
      ];
}
  where
    and_off : (c : Bool) → (c && false) ≡ false
    and_off true = refl
    and_off false = refl

-- numbers in two halves, by the lower part
half_same : (c : Bool) (m r half b j : ℕ) → m ≡ b * half + r → b < 2 → r < half → j < half → ((c && (m == j)) || (c && (m == half + j))) ≡ (c && (r == j))
half_same false m r half b j is small low within = refl
half_same true m r half b j is small low within = elim (cases_eq b 0) [
  | inl off ↦ let same : m ≡ r = is ∙ ap (λ d. d * half + r) off ∙ omega arith in grind (arith, nat_tests)
  | inr on ↦ let one : b ≡ 1 = omega arith in let same : m ≡ half + r = is ∙ ap (λ d. d * half + r) one ∙ omega arith in grind (arith, nat_tests)
]

-- and by the upper one
half_upper : (c : Bool) (m r half b : ℕ) → m ≡ b * half + r → b < 2 → r < half → (c && (nat_le half m && nat_lt m (half + half))) ≡ (c && (b == 1))
half_upper false m r half b is small low = refl
half_upper true m r half b is small low = elim (cases_eq b 0) [
  | inl off ↦ let same : m ≡ r = is ∙ ap (λ d. d * half + r) off ∙ omega arith in grind (arith, nat_tests)
  | inr on ↦ let one : b ≡ 1 = omega arith in let same : m ≡ half + r = is ∙ ap (λ d. d * half + r) one ∙ omega arith in grind (arith, nat_tests)
]

two_halves : (k : ℕ) → 2 ^ (k + 1) ≡ 2 ^ k + 2 ^ k
two_halves k = let next : k + 1 ≡ 1 + k = omega arith in let twice = pow-add 2 1 k in ap (λ i. 2 ^ i) next ∙ twice ∙ omega arith

module _ (k n : ℕ) (block words : List ℕ) (marks : MarkLow (k + 1) n block words) where
  -- one half joined with the other
  pub low_folded : (new : List ℕ) → ((j : ℕ) → j < 2 ^ k → get_or new j 0 ≡ bit_or (get_or words j 0) (get_or words (2 ^ k + j) 0)) → MarkLow k n block new
  low_folded new folded = record {
    each = λ j p within.
        let v = get_or block p 0 in
        let twice = two_halves k in
        ap (λ w. bit_at w p == 1) (folded j within)
        ∙ ap (λ b. b == 1) (bit_at_or (get_or words j 0) (get_or words (2 ^ k + j) 0) p)
        ∙ or_one (bit_at (get_or words j 0) p) (bit_at (get_or words (2 ^ k + j) 0) p) (bit_at-lt (get_or words j 0) p) (bit_at-lt (get_or words (2 ^ k + j) 0) p)
        ∙ ap₂ ◌||◌ (marks.each j p (omega arith)) (marks.each (2 ^ k + j) p (omega arith))
        ∙ half_same (nat_lt p n) (v % 2 ^ (k + 1)) (v % 2 ^ k) (2 ^ k) (bit_at v k) j (places_more k v) (bit_at-lt v k) (mod_below v (2 ^ k) (pow_pos k)) within;
  }

  -- the upper half marks the digits with place k
  pub upper_bit : (p : ℕ) → (bit_at (union_of words (2 ^ k) (2 ^ k)) p == 1) ≡ (nat_lt p n && has_place k (get_or block p 0))
  upper_bit p =
      let v = get_or block p 0 in
      let twice = two_halves k in
      union_bit words p (v % 2 ^ (k + 1)) (2 ^ (k + 1)) (nat_lt p n) (λ j inside. marks.each j p inside) (2 ^ k) (2 ^ k) (omega arith)
      ∙ half_upper (nat_lt p n) (v % 2 ^ (k + 1)) (v % 2 ^ k) (2 ^ k) (bit_at v k) (places_more k v) (bit_at-lt v k) (mod_below v (2 ^ k) (pow_pos k))

-- words of digits below a base, of which those of the places from k on are written behind, and the others follow from some
-- that are folded
pub record IsFolding (base k : ℕ) (old words folded : List ℕ) : Type 0 where
  pub long : length words ≡ length old
  pub few : base + k ≤ length old
  pub ample : 2 ^ (length old - base) ≤ length folded
  pub unchanged : (j : ℕ) → j < base → get_or words j 0 ≡ get_or old j 0
  pub low : (n : ℕ) (block : List ℕ) → MarkBase base n block old → MarkLow k n block folded
  pub done : (n : ℕ) (block : List ℕ) → MarkBase base n block old → (i p : ℕ) → k ≤ i → base + i < length old
      → (bit_at (get_or words (base + i) 0) p == 1) ≡ (nat_lt p n && has_place i (get_or block p 0))

-- none is written, and the words that are folded begin with those of the digits
pub folding_none : (base place : ℕ) (old folded : List ℕ) → place ≡ length old - base → base ≤ length old → base ≤ 2 ^ (length old - base) → 2 ^ (length old - base) ≤ length folded
    → ((j : ℕ) → j < base → get_or folded j 0 ≡ get_or old j 0) → ((j : ℕ) → base ≤ j → get_or folded j 0 ≡ 0) → IsFolding base place old old folded
folding_none base place old folded all own enough ample copied clear = record {
  long = refl;
  few = omega arith;
  ample = ample;
  unchanged = λ j inside. refl;
  low = λ n block marks. low_all base place n block old folded (rw all enough) marks copied clear;
  done = λ n block marks i p from within. absurd (omega arith);
}

-- one place more, by the two halves of the words
pub folding_more : (base k place half upper : ℕ) (old words folded new : List ℕ) → place ≡ k + 1 → half ≡ 2 ^ k → IsFolding base place old words folded → length new ≡ length folded
    → ((j : ℕ) → j < half → get_or new j 0 ≡ bit_or (get_or folded j 0) (get_or folded (half + j) 0)) → upper ≡ union_of folded half half
    → IsFolding base k old (set words (base + k) upper) new
folding_more base k place half upper old words folded new next half_is folding same joined upper_is =
    let here : base + k < length words = omega (arith, folding.few, folding.long) in
    let low : (n : ℕ) (block : List ℕ) → MarkBase base n block old → MarkLow (k + 1) n block folded =
    λ n block marks. rw (← next) (folding.low n block marks) in
    record {
      long = length-set words (base + k) upper ∙ folding.long;
      few = omega (arith, folding.few);
      ample = omega (arith, folding.ample);
      unchanged = λ j inside. get_or-set_other words (base + k) j upper 0 (omega arith) ∙ folding.unchanged j inside;
      low = λ n block marks. low_folded k n block folded (low n block marks) new (λ j inside.
          joined j (omega arith) ∙ ap (λ h. bit_or (get_or folded j 0) (get_or folded (h + j) 0)) half_is);
      done = λ n block marks i p from within. elim (cases_eq i k) [
        | inl same ↦
            ap (λ m. bit_at (get_or (set words (base + k) upper) (base + m) 0) p == 1) same
            ∙ ap (λ w. bit_at w p == 1) (get_or-set_same words (base + k) upper 0 here ∙ upper_is ∙ ap (λ h. union_of folded h h) half_is)
            ∙ upper_bit k n block folded (low n block marks) p
            ∙ ap (λ m. nat_lt p n && has_place m (get_or block p 0)) (sym same)
        | inr apart ↦
            ap (λ w. bit_at w p == 1) (get_or-set_other words (base + k) (base + i) upper 0 (omega arith))
            ∙ folding.done n block marks i p (omega arith) within
      ];
    }

-- all places are written
pub folded_marks : (base : ℕ) (old words folded block : List ℕ) → length block ≤ 64 → ((p : ℕ) → p < length block → get_or block p 0 < base) → base ≤ length old
    → AreDigitMarks (λ j v. v == j) block old → IsFolding base 0 old words folded → AreDigitMarks (then_places base (λ j v. v == j)) block words
folded_marks base old words folded block few below own marks folding =
    let n = length block in
    let marked = marks_marked (λ j v. v == j) block old few marks in
    let first : MarkBase base n block old = record { below = below; each = λ j p inside. marked.each j p (omega arith) } in
    marks_of (then_places base (λ j v. v == j)) n block words refl few (record {
      each = λ j p within. elim (cases_lt j base) [
        | inl inside ↦
            ap (λ w. bit_at w p == 1) (folding.unchanged j inside) ∙ first.each j p inside
            ∙ ap (λ b. nat_lt p n && b) (sym (own_test base (λ j v. v == j) j (get_or block p 0) inside))
        | inr above ↦
            let back : base + (j - base) ≡ j = omega arith in
            ap (λ i. bit_at (get_or words i 0) p == 1) (sym back)
            ∙ folding.done n block first (j - base) p (omega arith) (omega (arith, folding.long))
            ∙ ap (λ b. nat_lt p n && b) (sym (place_test base (λ j v. v == j) j (get_or block p 0) above))
      ];
    })

-- the words of a block, each joined with those before it
pub joined_marks : (base : ℕ) (block words new : List ℕ) → length block ≤ 64 → base ≤ length words → AreDigitMarks (then_places base (λ j v. v == j)) block words → length new ≡ length words
    → ((j : ℕ) → j < base → get_or new j 0 ≡ union_of words 0 j) → ((j : ℕ) → base ≤ j → get_or new j 0 ≡ get_or words j 0)
    → AreDigitMarks (then_places base (λ j v. nat_lt v j)) block new
joined_marks base block words new few own marks long joined rest =
    let n = length block in
    let marked = marks_marked (then_places base (λ j v. v == j)) block words few marks in
    marks_of (then_places base (λ j v. nat_lt v j)) n block new refl few (record {
      each = λ j p within.
          let v = get_or block p 0 in
          elim (cases_lt j base) [
            | inl inside ↦
                ap (λ w. bit_at w p == 1) (joined j inside)
                ∙ union_bit words p v base (nat_lt p n) (λ i near. marked.each i p (omega arith) ∙ ap (λ b. nat_lt p n && b) (own_test base (λ j v. v == j) i v near)) 0 j (omega arith)
                ∙ ap (λ b. nat_lt p n && b) (from_zero v j ∙ sym (own_test base (λ j v. nat_lt v j) j v inside))
            | inr above ↦
                ap (λ w. bit_at w p == 1) (rest j above) ∙ marked.each j p (omega arith)
                ∙ ap (λ b. nat_lt p n && b) (place_test base (λ j v. v == j) j v above ∙ sym (place_test base (λ j v. nat_lt v j) j v above))
          ];
    })
  where
    from_zero : (v j : ℕ) → (nat_le 0 v && nat_lt v (0 + j)) ≡ nat_lt v j
    from_zero v j = grind (arith, nat_tests)

-- the words from a place on
pub marks_from : (first : ℕ) (holds moved : ℕ → ℕ → Bool) (block words : List ℕ) → length block ≤ 64 → ((j v : ℕ) → holds (first + j) v ≡ moved j v)
    → AreDigitMarks holds block words → AreDigitMarks moved block (take (length words - first) (drop first words))
marks_from first holds moved block words few same marks =
    let marked = marks_marked holds block words few marks in
    let all : take (length words - first) (drop first words) ≡ drop first words = take_all (length words - first) (drop first words) (omega (arith, length-drop first words)) in
    subst (λ (ws : List ℕ). AreDigitMarks moved block ws) (sym all) (marks_of moved (length block) block (drop first words) refl few (record {
      each = λ j p within.
          ap (λ w. bit_at w p == 1) (get_or-drop first words j 0)
          ∙ marked.each (first + j) p (omega (arith, within, length-drop first words))
          ∙ ap (λ b. nat_lt p (length block) && b) (same j (get_or block p 0));
    }))

-- those from the first digit with a bitmap on
pub stored_marks : (marks : ℕ → ℕ → Bool) (base first : ℕ) (block words : List ℕ) → first ≤ base → length block ≤ 64 → AreDigitMarks (then_places base marks) block words
    → AreDigitMarks (then_places (base - first) (λ i v. marks (first + i) v)) block (take (length words - first) (drop first words))
stored_marks marks base first block words low few all =
    marks_from first (then_places base marks) (then_places (base - first) (λ i v. marks (first + i) v)) block words few (λ j v. moved marks base first j v low) all
