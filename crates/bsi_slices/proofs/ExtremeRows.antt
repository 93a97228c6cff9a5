-- The number at an end of the rows of a selection, span by span.
use Rattle.std.proofs.Common.{◌≡◌, ℕ, zero, suc, ◌+◌, ◌-◌, ◌<◌, ◌≤◌, Bool, true, false, ◌&&◌, List, [], ◌∷◌, Option, Some, None, length, get_or, map, inl, inr, ap, sym, ◌∙◌, refl, arith, is_some, ◌⊎◌}
use Rattle.std.specs.Option.{option_or}
use Rattle.std.specs.Prelude.{nat_le, All, Contains}
use Rattle.std.proofs.lemmas.Bool.{cases_lt}
use Rattle.std.proofs.lemmas.Bool.Decides.{nat_tests}
use Rattle.std.proofs.lemmas.List.{get_or-map, get_or_past, length-map}
use Rattle.bsi_digits.specs.Orders.{values_at}
use Rattle.bsi_digits.specs.Comparisons.{number_or_zero}
use Rattle.bsi_digits.specs.declared.extreme.Extreme.{Extreme}
use Rattle.bsi_digits.specs.declared.extreme.Extreme.TheVariants.{Least, Greatest}
use Rattle.bsi_slices.specs.Extremes.{is_no_worse, is_better, number_at, has_number, IsExtremeAmong, IsExtremeUpto, IsExtremeOf, IsImprovement}

-- ---- one span more

pub trans_first : (extreme : Extreme) (a b c : ℕ) → is_no_worse extreme a b → is_no_worse extreme b c → is_no_worse extreme a c
trans_first Least a b c first second = omega arith
trans_first Greatest a b c first second = omega arith

before_first : (extreme : Extreme) (a b : ℕ) → is_better extreme a b → is_no_worse extreme a b
before_first Least a b before = omega arith
before_first Greatest a b before = omega arith

-- row r is before a span, or in it
cases_span : (from r : ℕ) → (r < from) ⊎ ((p : ℕ) × (from + p ≡ r))
cases_span from r = elim (cases_lt r from) [
  | inl before ↦ inl before
  | inr past ↦ inr (r - from, omega arith)
]

module _ (extreme : Extreme) (selection : List Bool) (entries : List (Option ℕ)) (from n : ℕ) (marked : ℕ → Bool)
    (bits : (p : ℕ) → p < n → marked p ≡ has_number selection entries (from + p)) where
  -- none before the span, and none of it leads
  no_row : ((r : ℕ) → r < from → has_number selection entries r ≡ false) → ((p : ℕ) → p < n → marked p ≡ true → ⊥) → (r : ℕ) → r < from + n → has_number selection entries r ≡ false
  no_row before none r below = elim (cases_span from r) [
    | inl first ↦ before r first
    | inr later ↦ off (has_number selection entries r) (λ on. none later.0 (omega (arith, later.1)) (bits later.0 (omega (arith, later.1)) ∙ ap (has_number selection entries) later.1 ∙ on))
  ]
    where
      off : (b : Bool) → (b ≡ true → ⊥) → b ≡ false
      off true not_on = absurd (not_on refl)
      off false not_on = refl

  -- the best one before stays
  best_row : (best : ℕ) → IsExtremeAmong extreme (has_number selection entries) (number_at entries) from best → ((p : ℕ) → p < n → marked p ≡ true → is_no_worse extreme best (number_at entries (from + p)))
      → IsExtremeAmong extreme (has_number selection entries) (number_at entries) (from + n) best
  best_row best before leading = record {
    member = (before.member.0, omega (arith, before.member.1), before.member.2, before.member.3);
    first = λ r below there. elim (cases_span from r) [
      | inl earlier ↦ before.first r earlier there
      | inr later ↦
          let First : ℕ → Type 0 = λ k. is_no_worse extreme best (number_at entries k) in
          rw later.1 at (leading later.0 (omega (arith, later.1)) (bits later.0 (omega (arith, later.1)) ∙ ap (has_number selection entries) later.1 ∙ there))
    ];
  }

  -- one of the span takes its place
  later_row : (m : ℕ) → IsExtremeAmong extreme marked (λ p. number_at entries (from + p)) n m → ((r : ℕ) → r < from → has_number selection entries r ≡ true → is_no_worse extreme m (number_at entries r))
      → IsExtremeAmong extreme (has_number selection entries) (number_at entries) (from + n) m
  later_row m span before = record {
    member = (from + span.member.0, omega (arith, span.member.1), sym (bits span.member.0 span.member.1) ∙ span.member.2, span.member.3);
    first = λ r below there. elim (cases_span from r) [
      | inl earlier ↦ before r earlier there
      | inr later ↦ rw later.1 at (span.first later.0 (omega (arith, later.1)) (bits later.0 (omega (arith, later.1)) ∙ ap (has_number selection entries) later.1 ∙ there))
    ];
  }

  pub span_more : (best answer : Option ℕ) → IsExtremeUpto extreme selection entries from best → IsImprovement extreme marked (λ p. number_at entries (from + p)) n best answer
      → IsExtremeUpto extreme selection entries (from + n) (option_or answer best)
  span_more None None before none = no_row before none
  span_more (Some best) None before leading = best_row best before leading
  span_more None (Some m) before better = later_row m better.0 (λ r below there. absurd (on_and_off (has_number selection entries r) there (before r below)))
    where
      on_and_off : (b : Bool) → b ≡ true → b ≡ false → ⊥
      on_and_off true on off = absurd (cc)
      on_and_off false on off = absurd (cc)
  span_more (Some best) (Some m) before better =
      later_row m better.0 (λ r below there. trans_first extreme m best (number_at entries r) (before_first extreme m best better.1) (before.first r below there))

-- ---- rows and entries

pub number_row : (selection : List Bool) (entries : List (Option ℕ)) (r : ℕ) → (get_or selection r false && get_or (map is_some entries) r false) ≡ has_number selection entries r
number_row selection entries r = ap (λ b. get_or selection r false && b) (elim (cases_lt r (length entries)) [
  | inl within ↦ get_or-map is_some entries r None false within
  | inr past ↦ get_or_past (map is_some entries) r false (omega (arith, length-map entries is_some)) ∙ sym (ap is_some (get_or_past entries r None past))
])

-- no row has a number, and so there is none
none_at : (selection : List Bool) (entries : List (Option ℕ)) → ((r : ℕ) → has_number selection entries r ≡ false) → values_at selection entries ≡ []
none_at [] entries none = refl
none_at (f ∷ selection) [] none = refl
none_at (false ∷ selection) (e ∷ entries) none = none_at selection entries (λ r. none (suc r))
none_at (true ∷ selection) (None ∷ entries) none = none_at selection entries (λ r. none (suc r))
none_at (true ∷ selection) (Some n ∷ entries) none = absurd (let first = none 0 in cc)

-- the number of a row is among them
member_at : (selection : List Bool) (entries : List (Option ℕ)) (r m : ℕ) → has_number selection entries r ≡ true → number_at entries r ≡ m → Contains (values_at selection entries) m
member_at [] entries r m there is = absurd (cc)
member_at (f ∷ selection) [] r m there is = absurd (off f selection r there)
  where
    off : (f : Bool) (selection : List Bool) (r : ℕ) → (get_or (f ∷ selection) r false && false) ≡ true → ⊥
    off f selection r there = go (get_or (f ∷ selection) r false) there
      where
        go : (b : Bool) → (b && false) ≡ true → ⊥
        go true there = absurd (cc)
        go false there = absurd (cc)
member_at (false ∷ selection) (e ∷ entries) zero m there is = absurd (cc)
member_at (false ∷ selection) (e ∷ entries) (suc r) m there is = member_at selection entries r m there is
member_at (true ∷ selection) (None ∷ entries) zero m there is = absurd (cc)
member_at (true ∷ selection) (None ∷ entries) (suc r) m there is = member_at selection entries r m there is
member_at (true ∷ selection) (Some n ∷ entries) zero m there is = (0, omega arith, is)
member_at (true ∷ selection) (Some n ∷ entries) (suc r) m there is = let later = member_at selection entries r m there is in (suc later.0, omega (arith, later.1), later.2)

all_cons : (P : ℕ → Type 0) (n : ℕ) (numbers : List ℕ) → P n → All P numbers → All P (n ∷ numbers)
all_cons P n numbers first rest zero d within = first
all_cons P n numbers first rest (suc k) d within = rest k d (omega arith)

-- what holds of the number of each row holds of all of them
all_at : (P : ℕ → Type 0) (selection : List Bool) (entries : List (Option ℕ)) → ((r : ℕ) → has_number selection entries r ≡ true → P (number_at entries r)) → All P (values_at selection entries)
all_at P [] entries each = λ k d within. absurd (omega arith)
all_at P (f ∷ selection) [] each = λ k d within. absurd (omega arith)
all_at P (false ∷ selection) (e ∷ entries) each = all_at P selection entries (λ r. each (suc r))
all_at P (true ∷ selection) (None ∷ entries) each = all_at P selection entries (λ r. each (suc r))
all_at P (true ∷ selection) (Some n ∷ entries) each = all_cons P n (values_at selection entries) (each 0 refl) (all_at P selection entries (λ r. each (suc r)))

at_most_true : (a b : ℕ) → a ≤ b → nat_le a b ≡ true
at_most_true a b low = grind (arith, nat_tests, low)

-- all rows
module _ (selection : List Bool) (entries : List (Option ℕ)) (n : ℕ) (same : length entries ≡ length selection) (all : length selection ≤ n) where
  inside : (r : ℕ) → has_number selection entries r ≡ true → r < n
  inside r there = elim (cases_lt r n) [
    | inl within ↦ within
    | inr past ↦ absurd (off (is_some (get_or entries r None)) (sym (ap (λ b. b && is_some (get_or entries r None)) (get_or_past selection r false (omega (arith, past)))) ∙ there))
  ]
    where
      off : (b : Bool) → (false && b) ≡ true → ⊥
      off b there = absurd (cc)

  none_here : ((r : ℕ) → r < n → has_number selection entries r ≡ false) → values_at selection entries ≡ []
  none_here none = none_at selection entries (λ r. elim (cases_lt r n) [
    | inl within ↦ none r within
    | inr past ↦ ap (λ b. b && is_some (get_or entries r None)) (get_or_past selection r false (omega (arith, past)))
  ])

  pub extreme_all : (extreme : Extreme) (answer : Option ℕ) → IsExtremeUpto extreme selection entries n answer → IsExtremeOf extreme (values_at selection entries) answer
  extreme_all Least None none = none_here none
  extreme_all Greatest None none = none_here none
  extreme_all Least (Some m) is = record {
    member = member_at selection entries is.member.0 m is.member.2 is.member.3;
    none_below = all_at (λ x. nat_le m x ≡ true) selection entries (λ r there. at_most_true m (number_at entries r) (is.first r (inside r there) there));
  }
  extreme_all Greatest (Some m) is = record {
    member = member_at selection entries is.member.0 m is.member.2 is.member.3;
    none_above = all_at (λ x. nat_le x m ≡ true) selection entries (λ r there. at_most_true (number_at entries r) m (is.first r (inside r there) there));
  }

-- each number is below the size
pub number_small : (entries : List (Option ℕ)) (size : ℕ) → 0 < size → All (λ e. number_or_zero e < size) entries → (r : ℕ) → number_at entries r < size
number_small entries size some below r = elim (cases_lt r (length entries)) [
  | inl within ↦ below r None within
  | inr past ↦ let none : number_at entries r ≡ 0 = ap number_or_zero (get_or_past entries r None past) in omega (arith, none)
]

-- the number of a row as it is read from a list of numbers
pub number_read : (entries : List (Option ℕ)) (r : ℕ) → get_or (map number_or_zero entries) r 0 ≡ number_at entries r
number_read entries r = elim (cases_lt r (length entries)) [
  | inl within ↦ get_or-map number_or_zero entries r None 0 within
  | inr past ↦
      get_or_past (map number_or_zero entries) r 0 (omega (arith, past, length-map entries number_or_zero))
      ∙ sym (ap number_or_zero (get_or_past entries r None past))
]
