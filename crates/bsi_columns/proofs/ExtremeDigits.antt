-- The number at an end of a span's rows, by the digits of components.
use Rattle.std.proofs.Common.{◌≡◌, ℕ, ◌+◌, ◌-◌, ◌*◌, ◌/◌, ◌%◌, ◌<◌, ◌≤◌, Bool, true, false, ◌&&◌, List, Option, Some, None, length, get_or, map, inl, inr, ap, ap₂, subst, sym, ◌∙◌, refl, arith, min, mod-eq_of_lt}
use Rattle.std.specs.Prelude.{nat_eq, is_some}
use Rattle.std.proofs.Math.Nat.{div-div-eq-div-mul, div-mul-le_self, div-eq_of_lt}
use Rattle.std.proofs.lemmas.Bool.{cases_eq, cases_lt}
use Rattle.std.proofs.lemmas.Bool.Decides.{nat_tests}
use Rattle.std.proofs.lemmas.Nat.{div-add-mod', mod_below, mul-le}
use Rattle.std.proofs.lemmas.List.{get_or-map, get_or_past, length-map}
use Rattle.bsi_digits.specs.declared.extreme.Extreme.{Extreme}
use Rattle.bsi_digits.specs.declared.extreme.Extreme.TheVariants.{Least, Greatest}
use Rattle.bsi_digits.specs.Comparisons.{number_or_zero}
use Rattle.bsi_bits.specs.SetRows.{HasRow, HasValue}
use Rattle.bsi_columns.specs.Extremes.{is_no_worse, best_is_no_worse, number_at}
use Rattle.bsi_columns.specs.SpanExtremes.{IsPastBound, IsNarrowedTo, AnswersExtreme}
use Rattle.bsi_columns.proofs.ExtremeSpans.{IsNearest, first_digit, nearest_step}

-- past a bound that the best number so far gives, no number comes before it
pub bound_past : (extreme : Extreme) (best above base weight bound d x : ℕ) → 1 ≤ weight → bound ≡ min (best / weight - above) (base - 1) → d < base → IsPastBound extreme bound d
    → is_no_worse extreme (above + d) (x / weight) → best_is_no_worse extreme (Some best) x
bound_past Least best above base weight bound d x some is low past first =
    let parts : best / weight * weight + best % weight ≡ best = div-add-mod' best weight in
    let farther : best / weight + 1 ≤ x / weight = omega (arith, is, low, past, first) in
    omega (arith, parts, mod_below best weight some, mul-le (best / weight + 1) weight (x / weight) weight farther (omega arith), div-mul-le_self x weight)
bound_past Greatest best above base weight bound d x some is low past first =
    let parts : x / weight * weight + x % weight ≡ x = div-add-mod' x weight in
    let farther : x / weight + 1 ≤ best / weight = omega (arith, is, low, past, first) in
    omega (arith, parts, mod_below x weight some, mul-le (x / weight + 1) weight (best / weight) weight farther (omega arith), div-mul-le_self best weight)

refl_first : (extreme : Extreme) (a : ℕ) → is_no_worse extreme a a
refl_first Least a = omega arith
refl_first Greatest a = omega arith

eq_true : (a b : ℕ) → a ≡ b → nat_eq a b ≡ true
eq_true a b same = grind (arith, nat_tests, same)

-- each kept row's digit is past the bound, and so none of the marked rows comes first
pub past_leads : (extreme : Extreme) (best : Option ℕ) (marked : ℕ → Bool) (number : ℕ → ℕ) (n weight base above prefix bound : ℕ) (narrowed : ℕ → Bool) → 0 < weight → 0 < base
    → above ≡ weight * base → IsNearest extreme marked number n above prefix narrowed
    → ((p : ℕ) → p < n → narrowed p ≡ true → IsPastBound extreme bound (number p / weight % base))
    → ((d x : ℕ) → d < base → IsPastBound extreme bound d → is_no_worse extreme (prefix * base + d) (x / weight) → best_is_no_worse extreme best x)
    → (p : ℕ) → p < n → marked p ≡ true → best_is_no_worse extreme best (number p)
past_leads extreme best marked number n weight base above prefix bound narrowed positive some above_is state past leading p within there =
    let x : ℕ = number p / weight in
    let q_is : x / base ≡ number p / above = div-div-eq-div-mul (number p) weight base ∙ ap (λ w. number p / w) (sym above_is) in
    let parts : x / base * base + x % base ≡ x = div-add-mod' x base in
    let low : x % base < base = mod_below x base (omega arith) in
    let Before : ℕ → Type 0 = λ q. is_no_worse extreme prefix q in
    let before : is_no_worse extreme prefix (x / base) = rw q_is (state.first p within there) in
    elim (cases_eq (x / base) prefix) [
      | inl same ↦
          let here : narrowed p ≡ true = state.narrowed_is p within ∙ ap₂ ◌&&◌ there (eq_true (number p / above) prefix (sym q_is ∙ same)) in
          let First : ℕ → Type 0 = λ y. is_no_worse extreme (prefix * base + x % base) y in
          let whole : prefix * base + x % base ≡ x = omega (arith, parts, ap (λ k. k * base) same) in
          leading (x % base) (number p) low (past p within here) (rw whole (refl_first extreme x))
      | inr apart ↦
          let row = state.some in
          let d : ℕ = number row.0 / weight % base in
          let d_low : d < base = mod_below (number row.0 / weight) base (omega arith) in
          let First : ℕ → Type 0 = λ y. is_no_worse extreme (prefix * base + d) y in
          leading d (number p) d_low (past row.0 row.1 row.2) (rw parts at (first_digit extreme prefix (x / base) base d (x % base) d_low low before (λ same. absurd (apart same))))
    ]

-- the digit of a row
pub row_digit : (entries : List (Option ℕ)) (weight base r : ℕ) → 0 < weight → 0 < base → get_or (map (λ e. number_or_zero e / weight % base) entries) r 0 ≡ number_at entries r / weight % base
row_digit entries weight base r positive some = elim (cases_lt r (length entries)) [
  | inl within ↦ get_or-map (λ e. number_or_zero e / weight % base) entries r None 0 within
  | inr past ↦
      let none : number_at entries r ≡ 0 = ap number_or_zero (get_or_past entries r None past) in
      get_or_past (map (λ e. number_or_zero e / weight % base) entries) r 0 (omega (arith, length-map entries (λ e. number_or_zero e / weight % base)))
      ∙ sym (ap (λ x. x / weight % base) none ∙ ap (λ x. x % base) (div-eq_of_lt positive) ∙ mod-eq_of_lt some)
]

-- ---- the digit that is kept

pub extreme_member : (extreme : Extreme) (bound : ℕ) (marked : ℕ → Bool) (digit : ℕ → ℕ) (n d : ℕ) → AnswersExtreme extreme bound marked digit n (Some d) → HasValue marked digit n d
extreme_member Least bound marked digit n d is = is.member
extreme_member Greatest bound marked digit n d is = is.member

pub extreme_first : (extreme : Extreme) (bound : ℕ) (marked : ℕ → Bool) (digit : ℕ → ℕ) (n d : ℕ) → AnswersExtreme extreme bound marked digit n (Some d) → (p : ℕ) → p < n → marked p ≡ true → is_no_worse extreme d (digit p)
extreme_first Least bound marked digit n d is = is.first
extreme_first Greatest bound marked digit n d is = is.first

pub extreme_past : (extreme : Extreme) (bound : ℕ) (marked : ℕ → Bool) (digit : ℕ → ℕ) (n : ℕ) → AnswersExtreme extreme bound marked digit n None → (p : ℕ) → p < n → marked p ≡ true → IsPastBound extreme bound (digit p)
extreme_past Least bound marked digit n past = past
extreme_past Greatest bound marked digit n past = past

-- a row that is kept by its digit and is there
pub narrowed_inside : (old there same new : Bool) → new ≡ ((old && same) && there) → (old ≡ true → there ≡ true) → new ≡ (old && same)
narrowed_inside true there same new is not_null = is ∙ ap (λ t. same && t) (not_null refl) ∙ always same
  where
    always : (b : Bool) → (b && true) ≡ b
    always true = refl
    always false = refl
narrowed_inside false there same new is not_null = is

pub narrowed_outside : (old there same new before : Bool) → new ≡ (before && there) → there ≡ false → (old ≡ true → there ≡ true) → new ≡ (old && same)
narrowed_outside true there same new before is off not_null = absurd (let on = not_null refl in cc)
narrowed_outside false there same new before is off not_null = is ∙ ap (λ t. before && t) off ∙ never before
  where
    never : (b : Bool) → (b && false) ≡ false
    never true = refl
    never false = refl

-- the rows of the digit are some
pub narrowed_some : (old new : ℕ → Bool) (digit : ℕ → ℕ) (n d : ℕ) → ((p : ℕ) → p < n → new p ≡ (old p && nat_eq (digit p) d)) → HasValue old digit n d → HasRow new n
narrowed_some old new digit n d narrowed row = (row.0, row.1, narrowed row.0 row.1 ∙ ap₂ ◌&&◌ row.2 (eq_true (digit row.0) d row.3))

pub both_second : (a b : Bool) → (a && b) ≡ true → b ≡ true
both_second true b both = both
both_second false b both = absurd (cc)

pub both_first : (a b : Bool) → (a && b) ≡ true → a ≡ true
both_first true b both = refl
both_first false b both = both

from_eq : (a b : ℕ) → nat_eq a b ≡ true → a ≡ b
from_eq a b same = grind (arith, nat_tests, same)

-- rows that are kept are marked
pub narrowed_marked : (extreme : Extreme) (marked : ℕ → Bool) (number : ℕ → ℕ) (n weight prefix : ℕ) (narrowed : ℕ → Bool) → IsNearest extreme marked number n weight prefix narrowed → (p : ℕ) → p < n → narrowed p ≡ true → marked p ≡ true
narrowed_marked extreme marked number n weight prefix narrowed state p within there =
    both_first (marked p) (nat_eq (number p / weight) prefix) (sym (state.narrowed_is p within) ∙ there)

-- one component down
module _ (extreme : Extreme) (marked : ℕ → Bool) (number : ℕ → ℕ) (n weight base above prefix d : ℕ) (narrowed new : ℕ → Bool) (digit : ℕ → ℕ) (positive : 0 < weight) (some : 0 < base) (above_is : above ≡ weight * base)
    (digits : (p : ℕ) → digit p ≡ number p / weight % base) (step : IsNarrowedTo extreme narrowed new digit n d) where
  pub digit_low : d < base
  digit_low =
      let row = step.some in
      let same : digit row.0 ≡ d = from_eq (digit row.0) d (both_second (narrowed row.0) (nat_eq (digit row.0) d) (sym (step.rows_are row.0 row.1) ∙ row.2)) in
      omega (arith, same, digits row.0, mod_below (number row.0 / weight) base some)

  pub component_step : IsNearest extreme marked number n above prefix narrowed → IsNearest extreme marked number n weight (prefix * base + d) new
  component_step state =
      let AtWeight : ℕ → Type 0 = λ w. IsNearest extreme marked number n w prefix narrowed in
      nearest_step extreme marked number n weight base prefix d narrowed new positive digit_low (subst AtWeight above_is state)
      (λ p within. step.rows_are p within ∙ ap (λ v. narrowed p && nat_eq v d) (digits p)) step.some
      (λ p within there. rw (← digits p) (step.first p within there))

-- a row with a number is there
pub not_null_row : (entries : List (Option ℕ)) (r : ℕ) → is_some (get_or entries r None) ≡ true → get_or (map is_some entries) r false ≡ true
not_null_row entries r there = elim (cases_lt r (length entries)) [
  | inl within ↦ get_or-map is_some entries r None false within ∙ there
  | inr past ↦ absurd (none_there (get_or entries r None) (get_or_past entries r None past) there)
]
  where
    none_there : (e : Option ℕ) → e ≡ None → is_some e ≡ true → ⊥
    none_there e none there = let off : false ≡ true = rw none at there in absurd (cc)

-- a row that is there comes before the last one's end
pub there_within : (bits : List Bool) (r : ℕ) → get_or bits r false ≡ true → r < length bits
there_within bits r there = elim (cases_lt r (length bits)) [
  | inl within ↦ within
  | inr past ↦ absurd (off_on (get_or bits r false) (get_or_past bits r false past) there)
]
  where
    off_on : (b : Bool) → b ≡ false → b ≡ true → ⊥
    off_on b off on = cc

-- of two that are not both set, one is clear
pub not_both : (a b : Bool) → (a && b) ≡ false → a ≡ true → b ≡ true → ⊥
not_both true b off on there = cc
not_both false b off on there = cc
