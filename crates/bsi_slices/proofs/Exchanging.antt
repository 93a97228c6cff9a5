-- Words that exchange bits in pairs, run after run.
use Rattle.std.proofs.Common.{◌≡◌, ◌≢◌, ℕ, ◌+◌, ◌-◌, ◌*◌, ◌/◌, ◌%◌, ◌^◌, ◌<◌, ◌≤◌, List, length, get_or, set, inl, inr, ap, ap₂, sym, ◌∙◌, refl, arith, length-set}
use Rattle.std.specs.Prelude.{bit_and, bit_xor, min}
use Rattle.std.specs.Int.{bit_at}
use Rattle.std.proofs.lemmas.Nat.{div-mul-add}
use Rattle.std.proofs.lemmas.Nat.Bits.{bit_at_and, bit_at_xor, bit_at-lt}
use Rattle.std.proofs.lemmas.List.{get_or-set_same, get_or-set_other}
use Rattle.std.proofs.lemmas.Bool.{cases_eq, cases_lt}
use Rattle.std.proofs.Math.Nat.{add-mul-div_left}
use Rattle.bsi_bits.proofs.Splicing.{bit_raised, bit_under, bit_lowered}
use Rattle.bsi_slices.specs.Exchanges.{across, IsLow}

-- a place and the one of that weight below it
div_step : (s r : ℕ) → 1 ≤ s → s ≤ r → (r - s) / s + 1 ≡ r / s
div_step s r some from =
    let whole : r - s + s * 1 ≡ r = omega arith in
    sym (add-mul-div_left (r - s) 1 (omega arith)) ∙ ap (λ x. x / s) whole

div_none : (s r : ℕ) → r < s → r / s ≡ 0
div_none s r below = ap (λ x. x / s) (omega arith) ∙ div-mul-add 0 s r below

-- the two words of a pair
module _ (s low a b : ℕ) (some : 1 ≤ s) (marks : IsLow s low) where
  abbrev pub turned : ℕ
  turned = bit_and (bit_xor (a / 2 ^ s) b) low

  turned_at : (i : ℕ) → bit_at turned i ≡ min ((bit_at a (i + s) + bit_at b i) % 2) (bit_at low i)
  turned_at i =
      bit_at_and (bit_xor (a / 2 ^ s) b) low i
      ∙ ap (λ x. min x (bit_at low i)) (bit_at_xor (a / 2 ^ s) b i ∙ ap (λ x. (x + bit_at b i) % 2) (bit_lowered a s i))

  turned_none : (i : ℕ) → i < 64 → i / s % 2 ≡ 1 → bit_at turned i ≡ 0
  turned_none i below high = omega (arith, turned_at i, marks i below, high)

  turned_some : (i : ℕ) → i < 64 → i / s % 2 ≡ 0 → bit_at turned i ≡ (bit_at a (i + s) + bit_at b i) % 2
  turned_some i below is_low = omega (arith, turned_at i, marks i below, is_low)

  pub second_low : (r : ℕ) → r < 64 → r / s % 2 ≡ 0 → bit_at (bit_xor b turned) r ≡ bit_at a (r + s)
  second_low r below is_low =
      bit_at_xor b turned r ∙ omega (arith, turned_some r below is_low, bit_at-lt a (r + s), bit_at-lt b r)

  pub second_high : (r : ℕ) → r < 64 → r / s % 2 ≡ 1 → bit_at (bit_xor b turned) r ≡ bit_at b r
  second_high r below high = bit_at_xor b turned r ∙ omega (arith, turned_none r below high, bit_at-lt b r)

  pub first_low : (r : ℕ) → r < 64 → r / s % 2 ≡ 0 → bit_at (bit_xor a (turned * 2 ^ s % 2 ^ 64)) r ≡ bit_at a r
  first_low r below is_low =
      let off : bit_at (turned * 2 ^ s % 2 ^ 64) r ≡ 0 = elim (cases_lt r s) [
        | inl under ↦ bit_under turned s r below under
        | inr from ↦ bit_raised turned s r below from ∙ turned_none (r - s) (omega arith) (omega (arith, div_step s r some from, is_low))
      ] in
      bit_at_xor a (turned * 2 ^ s % 2 ^ 64) r ∙ omega (arith, off, bit_at-lt a r)

  pub first_high : (r : ℕ) → r < 64 → s ≤ r → r / s % 2 ≡ 1 → bit_at (bit_xor a (turned * 2 ^ s % 2 ^ 64)) r ≡ bit_at b (r - s)
  first_high r below from high =
      let whole : r - s + s ≡ r = omega arith in
      let some_there = turned_some (r - s) (omega arith) (omega (arith, div_step s r some from, high)) in
      let moved : bit_at (turned * 2 ^ s % 2 ^ 64) r ≡ (bit_at a r + bit_at b (r - s)) % 2 =
      bit_raised turned s r below from ∙ some_there ∙ ap (λ p. (bit_at a p + bit_at b (r - s)) % 2) whole in
      bit_at_xor a (turned * 2 ^ s % 2 ^ 64) r ∙ omega (arith, moved, bit_at-lt a r, bit_at-lt b (r - s))

-- of a run, the pairs before row k have exchanged their bits
pub record Run (s from k : ℕ) (old now : List ℕ) : Type 0 where
  pub long : length now ≡ 64
  pub first : (q r : ℕ) → from + q < k → r < 64 →
      bit_at (get_or now (from + q) 0) r ≡ bit_at (get_or old (from + q + s * (r / s % 2)) 0) (r - s * (r / s % 2))
  pub second : (q r : ℕ) → from + q < k → r < 64 →
      bit_at (get_or now (from + s + q) 0) r ≡ bit_at (get_or old (from + q + s * (r / s % 2)) 0) (r - s * (r / s % 2) + s)
  pub before : (j : ℕ) → j < from → get_or now j 0 ≡ get_or old j 0
  pub middle : (j : ℕ) → k ≤ j → j < from + s → get_or now j 0 ≡ get_or old j 0
  pub after : (j : ℕ) → k + s ≤ j → get_or now j 0 ≡ get_or old j 0

pub run_none : (s from : ℕ) (old : List ℕ) → length old ≡ 64 → Run s from from old old
run_none s from old long = record {
  long = long;
  first = λ q r below near. absurd (omega arith);
  second = λ q r below near. absurd (omega arith);
  before = λ j below. refl;
  middle = λ j least most. refl;
  after = λ j past. refl;
}

module _ (s low from k : ℕ) (old now : List ℕ) (some : 1 ≤ s) (within : from + 2 * s ≤ 64) (marks : IsLow s low) (least : from ≤ k) (most : k < from + s)
    (run : Run s from k old now) where
  abbrev pub a : ℕ
  a = get_or now k 0

  abbrev pub b : ℕ
  b = get_or now (k + s) 0

  abbrev pub one : ℕ
  one = bit_xor a (turned s low a b some marks * 2 ^ s % 2 ^ 64)

  abbrev pub two : ℕ
  two = bit_xor b (turned s low a b some marks)

  abbrev pub new : List ℕ
  new = set (set now k one) (k + s) two

  is_a : a ≡ get_or old k 0
  is_a = run.middle k (omega arith) most

  is_b : b ≡ get_or old (k + s) 0
  is_b = run.after (k + s) (omega arith)

  at_first : get_or new k 0 ≡ one
  at_first = get_or-set_other (set now k one) (k + s) k two 0 (omega arith) ∙ get_or-set_same now k one 0 (omega (arith, run.long))

  at_second : get_or new (k + s) 0 ≡ two
  at_second = get_or-set_same (set now k one) (k + s) two 0 (omega (arith, length-set now k one, run.long))

  at_other : (j : ℕ) → j ≢ k → j ≢ k + s → get_or new j 0 ≡ get_or now j 0
  at_other j apart away = get_or-set_other (set now k one) (k + s) j two 0 away ∙ get_or-set_other now k j one 0 apart

  there : (i j p t : ℕ) → i ≡ j → p ≡ t → bit_at (get_or old i 0) p ≡ bit_at (get_or old j 0) t
  there i j p t same place = ap₂ (λ i p. bit_at (get_or old i 0) p) same place

  -- (by whether the place is low)
  module _ (q r : ℕ) (here : from + q ≡ k) (near : r < 64) where
    none : r / s % 2 ≡ 0 → s * (r / s % 2) ≡ 0
    none is_low = ap (λ d. s * d) is_low ∙ omega arith

    once : r / s % 2 ≡ 1 → s * (r / s % 2) ≡ s
    once high = ap (λ d. s * d) high ∙ omega arith

    above : r / s % 2 ≡ 1 → s ≤ r
    above high = elim (cases_lt r s) [
      | inl under ↦ absurd (omega (arith, div_none s r under, high))
      | inr is_above ↦ is_above
    ]

    is_high : r / s % 2 ≢ 0 → r / s % 2 ≡ 1
    is_high apart = omega arith

    pub first_here : bit_at (get_or new (from + q) 0) r ≡ bit_at (get_or old (from + q + s * (r / s % 2)) 0) (r - s * (r / s % 2))
    first_here =
        ap (λ j. bit_at (get_or new j 0) r) here ∙ ap (λ x. bit_at x r) at_first
        ∙ elim (cases_eq (r / s % 2) 0) [
          | inl is_low ↦
              first_low s low a b some marks r near is_low ∙ ap (λ x. bit_at x r) is_a
              ∙ there k (from + q + s * (r / s % 2)) r (r - s * (r / s % 2)) (omega (arith, none is_low)) (omega (arith, none is_low))
          | inr apart ↦
              let high = is_high apart in
              first_high s low a b some marks r near (above high) high ∙ ap (λ x. bit_at x (r - s)) is_b
              ∙ there (k + s) (from + q + s * (r / s % 2)) (r - s) (r - s * (r / s % 2)) (omega (arith, once high)) (omega (arith, once high))
        ]

    pub second_here : bit_at (get_or new (from + s + q) 0) r ≡ bit_at (get_or old (from + q + s * (r / s % 2)) 0) (r - s * (r / s % 2) + s)
    second_here =
        let place : from + s + q ≡ k + s = omega arith in
        ap (λ j. bit_at (get_or new j 0) r) place ∙ ap (λ x. bit_at x r) at_second
        ∙ elim (cases_eq (r / s % 2) 0) [
          | inl is_low ↦
              second_low s low a b some marks r near is_low ∙ ap (λ x. bit_at x (r + s)) is_a
              ∙ there k (from + q + s * (r / s % 2)) (r + s) (r - s * (r / s % 2) + s) (omega (arith, none is_low)) (omega (arith, none is_low))
          | inr apart ↦
              let high = is_high apart in
              let from_s = above high in
              second_high s low a b some marks r near high ∙ ap (λ x. bit_at x r) is_b
              ∙ there (k + s) (from + q + s * (r / s % 2)) r (r - s * (r / s % 2) + s) (omega (arith, once high)) (omega (arith, once high, from_s))
        ]

  pub run_more : Run s from (k + 1) old new
  run_more = record {
    long = length-set (set now k one) (k + s) two ∙ length-set now k one ∙ run.long;
    first = λ q r below near. elim (cases_eq (from + q) k) [
      | inl here ↦ first_here q r here near
      | inr apart ↦ ap (λ x. bit_at x r) (at_other (from + q) apart (omega arith)) ∙ run.first q r (omega arith) near
    ];
    second = λ q r below near. elim (cases_eq (from + q) k) [
      | inl here ↦ second_here q r here near
      | inr apart ↦ ap (λ x. bit_at x r) (at_other (from + s + q) (omega arith) (omega arith)) ∙ run.second q r (omega arith) near
    ];
    before = λ j below. at_other j (omega arith) (omega arith) ∙ run.before j below;
    middle = λ j past inside. at_other j (omega arith) (omega arith) ∙ run.middle j (omega arith) inside;
    after = λ j past. at_other j (omega arith) (omega arith) ∙ run.after j (omega arith);
  }

-- the runs before the one of number p have exchanged their bits
pub record Runs (s p : ℕ) (old now : List ℕ) : Type 0 where
  pub long : length now ≡ 64
  pub done : (k r : ℕ) → k < 2 * s * p → r < 64 → bit_at (get_or now k 0) r ≡ bit_at (get_or old (across s k r) 0) (across s r k)
  pub rest : (k : ℕ) → 2 * s * p ≤ k → get_or now k 0 ≡ get_or old k 0

pub runs_none : (s : ℕ) (old : List ℕ) → length old ≡ 64 → Runs s 0 old old
runs_none s old long = record {
  long = long;
  done = λ k r below near. absurd (omega arith);
  rest = λ k least. refl;
}

module _ (s p : ℕ) (old mid new : List ℕ) (some : 1 ≤ s) (runs : Runs s p old mid) (run : Run s (2 * s * p) (2 * s * p + s) mid new) where
  abbrev pub from : ℕ
  from = 2 * s * p

  next : 2 * s * (p + 1) ≡ from + 2 * s
  next = grind arith

  first_row : (q : ℕ) → q < s → (from + q) / s % 2 ≡ 0
  first_row q below =
      let row : from + q ≡ 2 * p * s + q = grind arith in
      let quotient : (from + q) / s ≡ 2 * p = ap (λ x. x / s) row ∙ div-mul-add (2 * p) s q below in
      omega (arith, quotient)

  second_row : (q : ℕ) → q < s → (from + s + q) / s % 2 ≡ 1
  second_row q below =
      let row : from + s + q ≡ (2 * p + 1) * s + q = grind arith in
      let quotient : (from + s + q) / s ≡ 2 * p + 1 = ap (λ x. x / s) row ∙ div-mul-add (2 * p + 1) s q below in
      omega (arith, quotient)

  moved : (k r i t : ℕ) → from ≤ i → i ≡ across s k r → t ≡ across s r k → bit_at (get_or mid i 0) t ≡ bit_at (get_or old (across s k r) 0) (across s r k)
  moved k r i t least same place =
      ap (λ x. bit_at x t) (runs.rest i least) ∙ ap₂ (λ i t. bit_at (get_or old i 0) t) same place

  done_first : (k r : ℕ) → from ≤ k → k < from + s → r < 64 → bit_at (get_or new k 0) r ≡ bit_at (get_or old (across s k r) 0) (across s r k)
  done_first k r least most near =
      let q = k - from in
      let here : k ≡ from + q = omega arith in
      let low : s * (k / s % 2) ≡ 0 = ap (λ x. s * (x / s % 2)) here ∙ ap (λ d. s * d) (first_row q (omega arith)) ∙ omega arith in
      ap (λ j. bit_at (get_or new j 0) r) here
      ∙ run.first q r (omega arith) near
      ∙ moved k r (from + q + s * (r / s % 2)) (r - s * (r / s % 2)) (omega arith) (omega (arith, low)) (omega (arith, low))

  done_second : (k r : ℕ) → from + s ≤ k → k < from + 2 * s → r < 64 → bit_at (get_or new k 0) r ≡ bit_at (get_or old (across s k r) 0) (across s r k)
  done_second k r least most near =
      let q = k - from - s in
      let here : k ≡ from + s + q = omega arith in
      let high : s * (k / s % 2) ≡ s = ap (λ x. s * (x / s % 2)) here ∙ ap (λ d. s * d) (second_row q (omega arith)) ∙ omega arith in
      ap (λ j. bit_at (get_or new j 0) r) here
      ∙ run.second q r (omega arith) near
      ∙ moved k r (from + q + s * (r / s % 2)) (r - s * (r / s % 2) + s) (omega arith) (omega (arith, high)) (omega (arith, high))

  pub runs_more : Runs s (p + 1) old new
  runs_more = record {
    long = run.long;
    done = λ k r below near. elim (cases_lt k from) [
      | inl before ↦ ap (λ x. bit_at x r) (run.before k before) ∙ runs.done k r before near
      | inr least ↦ elim (cases_lt k (from + s)) [
        | inl inside ↦ done_first k r least inside near
        | inr past ↦ done_second k r past (omega (arith, next)) near
      ]
    ];
    rest = λ k past. run.after k (omega (arith, next)) ∙ runs.rest k (omega (arith, next));
  }
