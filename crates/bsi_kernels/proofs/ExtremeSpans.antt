-- The number at an end of some rows, by its digits from the most significant down.
use Rattle.std.proofs.Common.{◌≡◌, ℕ, ◌+◌, ◌-◌, ◌*◌, ◌/◌, ◌%◌, ◌^◌, ◌<◌, ◌≤◌, Bool, true, false, ◌&&◌, not, List, Option, Some, None, length, get_or, map, inl, inr, ap, ap₂, subst, sym, ◌∙◌, refl, arith, ◌⊎◌}
use Rattle.std.specs.Prelude.{nat_eq, ◌==◌, if◌then◌else◌, bit_and}
use Rattle.std.specs.Int.{bit_at, bit_not, w64}
use Rattle.std.proofs.Math.Nat.{div-div-eq-div-mul, div-mul-le_self, div-eq_of_lt}
use Rattle.std.proofs.lemmas.Bool.{cases_eq, cases_lt}
use Rattle.std.proofs.lemmas.Bool.Decides.{nat_tests}
use Rattle.std.proofs.lemmas.Nat.{div-add-mod', mod_below, mul-le, pow_pos}
use Rattle.std.specs.Simd.Lanes.{zip2}
use Rattle.std.specs.Option.{option_or}
use Rattle.std.proofs.lemmas.Nat.Bits.{bit_at-lt}
use Rattle.bsi_bits.specs.SetRows.{HasRow}
use Rattle.bsi_bits.specs.Packed.{bit_of}
use Rattle.bsi_kernels.specs.Places.{bit_value}
use Rattle.bsi_digits.specs.declared.extreme.Extreme.{Extreme}
use Rattle.bsi_digits.specs.declared.extreme.Extreme.TheVariants.{Least, Greatest}
use Rattle.bsi_kernels.specs.Extremes.{is_no_worse, clear_is_better, is_better, best_is_no_worse, best_place, improves, IsImprovement, IsExtremeAmong}
use Rattle.bsi_kernels.proofs.WordSpans.{cut_bit, turned}
use Rattle.bsi_digits.proofs.CallerLemmas.{two_eq}

-- ---- what leads

pub least_leads : (best number w x : ℕ) → best ≤ number * w → number ≤ x / w → best ≤ x
least_leads best number w x bound above =
    omega (arith, bound, mul-le number w (x / w) w above (omega arith), div-mul-le_self x w)

pub greatest_leads : (best number w x : ℕ) → 1 ≤ w → number * w + (w - 1) ≤ best → x / w ≤ number → x ≤ best
greatest_leads best number w x some bound below =
    let parts : x / w * w + x % w ≡ x = div-add-mod' x w in
    omega (arith, parts, bound, mul-le (x / w) w number w below (omega arith), mod_below x w some)

-- ---- one digit more

pub same_parts : (x a b d : ℕ) → d < b → (nat_eq (x / b) a && nat_eq (x % b) d) ≡ nat_eq x (a * b + d)
same_parts x a b d below =
    let parts : x / b * b + x % b ≡ x = div-add-mod' x b in
    sym (two_eq b (x % b) d (x / b) a (mod_below x b (omega arith)) below) ∙ ap (λ y. nat_eq y (a * b + d)) parts

-- with more digits the number still leaves room for those that are left
pub next_small : (number w b d s : ℕ) → d < b → number * (w * b) + w * b ≤ s → (number * b + d) * w + w ≤ s
next_small number w b d s below small = omega (arith, mul-le (d + 1) w b w (omega arith) (omega arith))

pub first_digit : (extreme : Extreme) (a q b d e : ℕ) → d < b → e < b → is_no_worse extreme a q → (q ≡ a → is_no_worse extreme d e) → is_no_worse extreme (a * b + d) (q * b + e)
first_digit Least a q b d e low high above tie = elim (cases_eq q a) [
  | inl same ↦ omega (arith, tie same, ap (λ k. k * b) same)
  | inr apart ↦ omega (arith, mul-le (a + 1) b q b (omega (arith, above, apart)) (omega arith))
]
first_digit Greatest a q b d e low high above tie = elim (cases_eq q a) [
  | inl same ↦ omega (arith, tie same, ap (λ k. k * b) same)
  | inr apart ↦ omega (arith, mul-le (q + 1) b a b (omega (arith, above, apart)) (omega arith))
]

-- the rows that are kept of the n that are marked have this number above the weight, which comes first
pub record IsNearest (extreme : Extreme) (marked : ℕ → Bool) (number : ℕ → ℕ) (n weight prefix : ℕ) (narrowed : ℕ → Bool) : Type 0 where
  pub some : HasRow narrowed n
  pub narrowed_is : (p : ℕ) → p < n → narrowed p ≡ (marked p && nat_eq (number p / weight) prefix)
  pub first : (p : ℕ) → p < n → marked p ≡ true → is_no_worse extreme prefix (number p / weight)

eq_true : (a b : ℕ) → a ≡ b → nat_eq a b ≡ true
eq_true a b same = grind (arith, nat_tests, same)

from_eq : (a b : ℕ) → nat_eq a b ≡ true → a ≡ b
from_eq a b same = grind (arith, nat_tests, same)

module _ (extreme : Extreme) (marked : ℕ → Bool) (number : ℕ → ℕ) (n : ℕ) where
  -- at a weight that no number reaches all marked rows are kept
  pub nearest_start : (weight : ℕ) → HasRow marked n → ((p : ℕ) → number p < weight) → IsNearest extreme marked number n weight 0 marked
  nearest_start weight some below = record {
    some = some;
    narrowed_is = λ p within. sym (ap (λ b. marked p && b) (eq_true (number p / weight) 0 (div-eq_of_lt (below p))) ∙ always (marked p));
    first = λ p within there. elim extreme as (λ e. is_no_worse e 0 (number p / weight)) [ Least ↦ omega arith | Greatest ↦ omega (arith, div-eq_of_lt (below p)) ];
  }
    where
      always : (b : Bool) → (b && true) ≡ b
      always true = refl
      always false = refl

  -- one digit more
  pub nearest_step : (weight base prefix digit : ℕ) (narrowed narrowed' : ℕ → Bool) → 0 < weight → digit < base → IsNearest extreme marked number n (weight * base) prefix narrowed
      → ((p : ℕ) → p < n → narrowed' p ≡ (narrowed p && nat_eq (number p / weight % base) digit)) → HasRow narrowed' n
      → ((p : ℕ) → p < n → narrowed p ≡ true → is_no_worse extreme digit (number p / weight % base))
      → IsNearest extreme marked number n weight (prefix * base + digit) narrowed'
  nearest_step weight base prefix digit narrowed narrowed' positive low state cut some first = record {
    some = some;
    narrowed_is = λ p within.
        let x : ℕ = number p / weight in
        cut p within ∙ ap (λ b. b && nat_eq (x % base) digit) (state.narrowed_is p within ∙ ap (λ q. marked p && nat_eq q prefix) (sym (above p)))
        ∙ and_assoc (marked p) (nat_eq (x / base) prefix) (nat_eq (x % base) digit)
        ∙ ap (λ b. marked p && b) (same_parts x prefix base digit low);
    first = λ p within there.
        let x : ℕ = number p / weight in
        let parts : x / base * base + x % base ≡ x = div-add-mod' x base in
        let First : ℕ → Type 0 = λ y. is_no_worse extreme (prefix * base + digit) y in
        let before : is_no_worse extreme prefix (x / base) = rw (above p) (state.first p within there) in
        rw parts at (first_digit extreme prefix (x / base) base digit (x % base) low (mod_below x base (omega arith)) before
        (λ same. first p within (state.narrowed_is p within ∙ ap₂ ◌&&◌ there (eq_true (number p / (weight * base)) prefix (sym (above p) ∙ same)))));
  }
    where
      above : (p : ℕ) → number p / weight / base ≡ number p / (weight * base)
      above p = div-div-eq-div-mul (number p) weight base

      and_assoc : (a b c : Bool) → ((a && b) && c) ≡ (a && (b && c))
      and_assoc true b c = refl
      and_assoc false b c = refl

  -- all digits
  pub nearest_extreme : (weight prefix : ℕ) (narrowed : ℕ → Bool) → weight ≡ 1 → IsNearest extreme marked number n weight prefix narrowed → IsExtremeAmong extreme marked number n prefix
  nearest_extreme weight prefix narrowed one state =
      let row = state.some in
      let both : (marked row.0 && nat_eq (number row.0 / weight) prefix) ≡ true = sym (state.narrowed_is row.0 row.1) ∙ row.2 in
      record {
        member = (row.0, row.1, both_first (marked row.0) (nat_eq (number row.0 / weight) prefix) both, sym (whole row.0) ∙ from_eq (number row.0 / weight) prefix (both_second (marked row.0) (nat_eq (number row.0 / weight) prefix) both));
        first = λ p within there. rw (whole p) at (state.first p within there);
      }
    where
      whole : (p : ℕ) → number p / weight ≡ number p
      whole p = ap (λ w. number p / w) one ∙ omega arith

      both_first : (a b : Bool) → (a && b) ≡ true → a ≡ true
      both_first true b both = refl
      both_first false b both = both

      both_second : (a b : Bool) → (a && b) ≡ true → b ≡ true
      both_second true b both = both
      both_second false b both = absurd (cc)

-- ---- one slice more

digit_met : (extreme : Extreme) (s : Bool) → turned (clear_is_better extreme) s ≡ nat_eq (bit_value s) (best_place extreme true)
digit_met Least true = refl
digit_met Least false = refl
digit_met Greatest true = refl
digit_met Greatest false = refl

digit_missed : (extreme : Extreme) (s : Bool) → turned (clear_is_better extreme) s ≡ false → nat_eq (bit_value s) (best_place extreme false) ≡ true
digit_missed Least true off = refl
digit_missed Least false off = sym off
digit_missed Greatest true off = sym off
digit_missed Greatest false off = refl

met_first : (extreme : Extreme) (s : Bool) → is_no_worse extreme (best_place extreme true) (bit_value s)
met_first Least true = omega arith
met_first Least false = omega arith
met_first Greatest true = omega arith
met_first Greatest false = omega arith

missed_first : (extreme : Extreme) (s : Bool) → turned (clear_is_better extreme) s ≡ false → is_no_worse extreme (best_place extreme false) (bit_value s)
missed_first Least true off = omega arith
missed_first Least false off = absurd (cc)
missed_first Greatest true off = absurd (cc)
missed_first Greatest false off = omega arith

pub place_small : (extreme : Extreme) (met : Bool) → best_place extreme met < 2
place_small Least true = omega arith
place_small Least false = omega arith
place_small Greatest true = omega arith
place_small Greatest false = omega arith

-- the rows kept by one more slice
module _ (extreme : Extreme) (n : ℕ) (narrowed slice first : ℕ → Bool) (cut : (p : ℕ) → p < n → first p ≡ (narrowed p && turned (clear_is_better extreme) (slice p))) where
  pub place_narrowed : (met : Bool) → (met ≡ false → (p : ℕ) → p < n → first p ≡ false) → (p : ℕ) → p < n
      → (if met then first p else narrowed p) ≡ (narrowed p && nat_eq (bit_value (slice p)) (best_place extreme met))
  place_narrowed true none p within = cut p within ∙ ap (λ b. narrowed p && b) (digit_met extreme (slice p))
  place_narrowed false none p within = missed (narrowed p) (slice p) (sym (cut p within) ∙ none refl p within)
    where
      missed : (k s : Bool) → (k && turned (clear_is_better extreme) s) ≡ false → k ≡ (k && nat_eq (bit_value s) (best_place extreme false))
      missed true s off = sym (digit_missed extreme s off)
      missed false s off = refl

  pub place_first : (met : Bool) → (met ≡ false → (p : ℕ) → p < n → first p ≡ false) → (p : ℕ) → p < n → narrowed p ≡ true
      → is_no_worse extreme (best_place extreme met) (bit_value (slice p))
  place_first true none p within there = met_first extreme (slice p)
  place_first false none p within there =
      missed_first extreme (slice p) (sym (ap (λ k. k && turned (clear_is_better extreme) (slice p)) there) ∙ sym (cut p within) ∙ none refl p within)

place_is : (b : ℕ) → b < 2 → bit_value (b == 1) ≡ b
place_is b low = elim (cases_eq b 1) [
  | inl one ↦ let t : (b == 1) ≡ true = grind (arith, nat_tests) in rw t (sym one)
  | inr other ↦ let t : (b == 1) ≡ false = grind (arith, nat_tests) in rw t (omega arith)
]

-- one slice down
pub nearest_slice : (extreme : Extreme) (marked : ℕ → Bool) (number : ℕ → ℕ) (n i above prefix : ℕ) (narrowed slice first narrowed' : List ℕ) (met : Bool)
    → above ≡ 2 ^ i * 2 → IsNearest extreme marked number (64 * n) above prefix (bit_of narrowed)
    → length narrowed ≡ n → length slice ≡ n → ((k : ℕ) → get_or slice k 0 < 2 ^ 64) → ((p : ℕ) → p < 64 * n → bit_of slice p ≡ (bit_at (number p) i == 1))
    → first ≡ (if clear_is_better extreme then zip2 bit_and narrowed (map (bit_not w64) slice) else zip2 bit_and narrowed slice)
    → (met ≡ true → HasRow (bit_of first) (64 * n)) → (met ≡ false → (p : ℕ) → bit_of first p ≡ false)
    → narrowed' ≡ (if met then first else narrowed)
    → IsNearest extreme marked number (64 * n) (2 ^ i) (prefix * 2 + best_place extreme met) (bit_of narrowed')
nearest_slice extreme marked number n i above prefix narrowed slice first narrowed' met above_is state long same fits places first_is some none narrowed_is =
    let AtWeight : ℕ → Type 0 = λ w. IsNearest extreme marked number (64 * n) w prefix (bit_of narrowed) in
    let cut : (p : ℕ) → p < 64 * n → bit_of first p ≡ (bit_of narrowed p && turned (clear_is_better extreme) (bit_of slice p)) =
    λ p within. ap (λ ws. bit_of ws p) first_is ∙ cut_bit n narrowed slice long same (clear_is_better extreme) fits p within in
    let missed : met ≡ false → (p : ℕ) → p < 64 * n → bit_of first p ≡ false = λ off p within. none off p in
    let digit : (p : ℕ) → p < 64 * n → bit_value (bit_of slice p) ≡ number p / 2 ^ i % 2 =
    λ p within. ap bit_value (places p within) ∙ place_is (bit_at (number p) i) (bit_at-lt (number p) i) ∙ bit_at_is (number p) i in
    nearest_step extreme marked number (64 * n) (2 ^ i) 2 prefix (best_place extreme met) (bit_of narrowed) (bit_of narrowed') (pow_pos i) (place_small extreme met) (subst AtWeight above_is state)
    (λ p within. ap (λ ws. bit_of ws p) narrowed_is ∙ either_bit met first narrowed p ∙ place_narrowed extreme (64 * n) (bit_of narrowed) (bit_of slice) (bit_of first) cut met missed p within
    ∙ ap (λ d. bit_of narrowed p && nat_eq d (best_place extreme met)) (digit p within))
    (rw narrowed_is (left met some))
    (λ p within there. rw (← digit p within) (place_first extreme (64 * n) (bit_of narrowed) (bit_of slice) (bit_of first) cut met missed p within there))
  where
    either_bit : (met : Bool) (first narrowed : List ℕ) (p : ℕ) → bit_of (if met then first else narrowed) p ≡ (if met then bit_of first p else bit_of narrowed p)
    either_bit true first narrowed p = refl
    either_bit false first narrowed p = refl

    left : (met : Bool) → (met ≡ true → HasRow (bit_of first) (64 * n)) → HasRow (bit_of (if met then first else narrowed)) (64 * n)
    left true some = some refl
    left false some = state.some

    bit_at_is : (x i : ℕ) → bit_at x i ≡ x / 2 ^ i % 2
    bit_at_is x i = refl

-- a test and its complement do not both hold
pub off_from_not : (b : Bool) → not b ≡ true → b ≡ true → ⊥
off_from_not true off on = absurd (cc)
off_from_not false off on = absurd (cc)

-- ---- one span more

before_first : (extreme : Extreme) (a b : ℕ) → is_better extreme a b → is_no_worse extreme a b
before_first Least a b before = omega arith
before_first Greatest a b before = omega arith

then_first : (extreme : Extreme) (a b c : ℕ) → is_no_worse extreme a b → is_no_worse extreme b c → is_no_worse extreme a c
then_first Least a b c first second = omega arith
then_first Greatest a b c first second = omega arith

before_then : (extreme : Extreme) (a b c : ℕ) → is_better extreme a b → is_better extreme b c → is_better extreme a c
before_then Least a b c first second = omega arith
before_then Greatest a b c first second = omega arith

first_led : (extreme : Extreme) (best : Option ℕ) (a x : ℕ) → improves extreme a best → best_is_no_worse extreme best x → is_no_worse extreme a x
first_led extreme None a x before led = absurd led
first_led extreme (Some b) a x before led = then_first extreme a b x (before_first extreme a b before) led

yields_too : (extreme : Extreme) (best : Option ℕ) (a b : ℕ) → is_better extreme a b → improves extreme b best → improves extreme a best
yields_too extreme None a b before after = tt
yields_too extreme (Some c) a b before after = before_then extreme a b c before after

-- row p is among the first n, or behind them
cases_rows : (n p : ℕ) → (p < n) ⊎ ((q : ℕ) × (n + q ≡ p))
cases_rows n p = elim (cases_lt p n) [
  | inl first ↦ inl first
  | inr past ↦ inr (p - n, omega arith)
]

-- no row, and so none better
pub better_none : (extreme : Extreme) (rows : ℕ → Bool) (number : ℕ → ℕ) (n : ℕ) (best : Option ℕ) → n ≡ 0 → IsImprovement extreme rows number n best None
better_none extreme rows number n best none p within there = absurd (omega (arith, none))

module _ (extreme : Extreme) (rows : ℕ → Bool) (number : ℕ → ℕ) (n m : ℕ) (best : Option ℕ) where
  all_lead : (answer : ℕ) → IsExtremeAmong extreme rows number n answer → ((p : ℕ) → p < m → rows (n + p) ≡ true → is_no_worse extreme answer (number (n + p))) → IsExtremeAmong extreme rows number (n + m) answer
  all_lead answer first later = record {
    member = (first.member.0, omega (arith, first.member.1), first.member.2, first.member.3);
    first = λ p below there. elim (cases_rows n p) [
      | inl before ↦ first.first p before there
      | inr after ↦
          let First : ℕ → Type 0 = λ k. is_no_worse extreme answer (number k) in
          rw after.1 at (later after.0 (omega (arith, after.1)) (ap rows after.1 ∙ there))
    ];
  }

  later_extreme : (answer : ℕ) → IsExtremeAmong extreme (λ p. rows (n + p)) (λ p. number (n + p)) m answer → ((p : ℕ) → p < n → rows p ≡ true → is_no_worse extreme answer (number p)) → IsExtremeAmong extreme rows number (n + m) answer
  later_extreme answer later first = record {
    member = (n + later.member.0, omega (arith, later.member.1), later.member.2, later.member.3);
    first = λ p below there. elim (cases_rows n p) [
      | inl before ↦ first p before there
      | inr after ↦
          let First : ℕ → Type 0 = λ k. is_no_worse extreme answer (number k) in
          rw after.1 at (later.first after.0 (omega (arith, after.1)) (ap rows after.1 ∙ there))
    ];
  }

  -- the rows before, and those of one span more
  pub better_more : (before answer : Option ℕ) → IsImprovement extreme rows number n best before
      → IsImprovement extreme (λ p. rows (n + p)) (λ p. number (n + p)) m (option_or before best) answer
      → IsImprovement extreme rows number (n + m) best (option_or answer before)
  better_more None None first later = λ p below there. elim (cases_rows n p) [
    | inl before ↦ first p before there
    | inr after ↦
        let Leads : ℕ → Type 0 = λ k. best_is_no_worse extreme best (number k) in
        rw after.1 at (later after.0 (omega (arith, after.1)) (ap rows after.1 ∙ there))
  ]
  better_more (Some b) None first later = (all_lead b first.0 later, first.1)
  better_more None (Some a) first later = (later_extreme a later.0 (λ p below there. first_led extreme best a (number p) later.1 (first p below there)), later.1)
  better_more (Some b) (Some a) first later = (
    later_extreme a later.0 (λ p below there. then_first extreme a b (number p) (before_first extreme a b later.1) (first.0.first p below there)),
    yields_too extreme best a b later.1 first.1,
  )

-- the same of rows that are alike
pub better_same : (extreme : Extreme) (rows others : ℕ → Bool) (number : ℕ → ℕ) (n : ℕ) (best answer : Option ℕ) → ((p : ℕ) → p < n → others p ≡ rows p)
    → IsImprovement extreme rows number n best answer → IsImprovement extreme others number n best answer
better_same extreme rows others number n best None same none = λ p below there. none p below (sym (same p below) ∙ there)
better_same extreme rows others number n best (Some a) same is = (
  record {
    member = (is.0.member.0, is.0.member.1, same is.0.member.0 is.0.member.1 ∙ is.0.member.2, is.0.member.3);
    first = λ p below there. is.0.first p below (sym (same p below) ∙ there);
  },
  is.1,
)
