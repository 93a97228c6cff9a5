-- The number of a given rank in a selection, by its digits from the most significant down.
use Rattle.std.proofs.Common.{◌≡◌, ℕ, ◌+◌, ◌-◌, ◌*◌, ◌/◌, ◌%◌, ◌<◌, suc, Bool, true, false, cond, List, [], ◌∷◌, Option, Some, None, length, get_or, map, inl, inr, ap, ap₂, sym, ◌∙◌, refl, arith}
use Rattle.std.specs.Prelude.{All, Contains, count_by, is_some, nat_eq, nat_lt, nat_le, not, ◌&&◌, ◌||◌}
use Rattle.std.specs.Simd.Lanes.{zip2}
use Rattle.std.proofs.Math.Nat.{div-div-eq-div-mul}
use Rattle.std.proofs.Math.Bool.{and-true, and-false}
use Rattle.std.proofs.lemmas.Nat.{div-add-mod', mod_below}
use Rattle.bsi_digits.proofs.CallerLemmas.{two_lt}
pub use Rattle.bsi_kernels.proofs.ExtremeSpans.{next_small, same_parts}
use Rattle.std.proofs.lemmas.Bool.{cases_Bool}
use Rattle.std.proofs.lemmas.Bool.Decides.{nat_tests}
use Rattle.std.proofs.lemmas.List.{nil_from_length}
use Rattle.std.proofs.lemmas.List.Sums.{sum_by-cons, get_or-le-sum_by}
use Rattle.std.proofs.lemmas.List.Elements.{All-from_get_or}
use Rattle.bsi_digits.specs.Comparisons.{number_or_zero}
use Rattle.bsi_digits.specs.Orders.{values_at}
use Rattle.bsi_digits.specs.Totals.{IsRanked, IsLeast, IsGreatest, IsLowerMedian}

-- ---- counts of numbers that pass a test

pub count_cons : {X : Type 0} (p : X → Bool) (x : X) (xs : List X) → count_by p (x ∷ xs) ≡ cond (p x) 1 0 + count_by p xs
count_cons p x xs = sum_by-cons (λ y. cond (p y) 1 0) x xs

-- a test that one of two tests passes, and never both, passes as often as both do
pub count_split : (p q r : ℕ → Bool) → ((n : ℕ) → cond (r n) 1 0 ≡ cond (p n) 1 0 + cond (q n) 1 0) → (xs : List ℕ) → count_by r xs ≡ count_by p xs + count_by q xs
count_split p q r split [] = refl
count_split p q r split (x ∷ xs) =
    let rest = count_split p q r split xs in
    omega (arith, count_cons p x xs, count_cons q x xs, count_cons r x xs, rest, split x)

pub count_both : (p : ℕ → Bool) (xs : List ℕ) → count_by p xs + count_by (λ n. not (p n)) xs ≡ length xs
count_both p [] = refl
count_both p (x ∷ xs) =
    let rest = count_both p xs in
    let one : cond (p x) 1 0 + cond (not (p x)) 1 0 ≡ 1 = elim (p x) as (λ b. cond b 1 0 + cond (not b) 1 0 ≡ 1) [ true ↦ refl | false ↦ refl ] in
    omega (arith, count_cons p x xs, count_cons (λ n. not (p n)) x xs, rest, one)

pub count_same : (p q : ℕ → Bool) → ((n : ℕ) → p n ≡ q n) → (xs : List ℕ) → count_by p xs ≡ count_by q xs
count_same p q same [] = refl
count_same p q same (x ∷ xs) =
    count_cons p x xs ∙ ap₂ (λ b n. cond b 1 0 + n) (same x) (count_same p q same xs) ∙ sym (count_cons q x xs)

count_all : (xs : List ℕ) → count_by (λ n. true) xs ≡ length xs
count_all [] = refl
count_all (x ∷ xs) = let rest = count_all xs in omega (arith, count_cons (λ n. true) x xs, rest)

count_none : (p : ℕ → Bool) → ((n : ℕ) → p n ≡ false) → (xs : List ℕ) → count_by p xs ≡ 0
count_none p none xs = let all = count_both p xs in let others = count_same (λ n. not (p n)) (λ n. true) (λ n. ap not (none n)) xs in omega (arith, all, others, count_all xs)

-- a number that is counted is there
pub member_from_count : (m : ℕ) (xs : List ℕ) → 0 < count_by (λ n. nat_eq n m) xs → Contains xs m
member_from_count m [] some = absurd (omega arith)
member_from_count m (x ∷ xs) some = elim (cases_Bool (nat_eq x m)) [
  | inl same ↦ (0, omega arith, grind (arith, nat_tests, same))
  | inr other ↦
      let later : 0 < count_by (λ n. nat_eq n m) xs = omega (arith, count_cons (λ n. nat_eq n m) x xs, ap {B = ℕ} (λ b. cond b 1 0) other) in
      let selection = member_from_count m xs later in
      (suc selection.0, omega (arith, selection.1), selection.2)
]

-- a test that passes none
pub none_from_count : (p : ℕ → Bool) (xs : List ℕ) → count_by p xs ≡ 0 → All (λ n. p n ≡ false) xs
none_from_count p xs none = All-from_get_or (λ n. p n ≡ false) xs 0 (λ i within.
    elim (cases_Bool (p (get_or xs i 0))) [
      | inl passes ↦
          let one = get_or-le-sum_by (λ n. cond (p n) 1 0) xs i 0 within in
          absurd (omega (arith, one, none, ap {B = ℕ} (λ b. cond b 1 0) passes))
      | inr fails ↦ fails
    ])

-- ---- the number of rank k: at most k numbers are below it, and more than k are at most it

below_or_same : (n m : ℕ) → cond (nat_le n m) 1 0 ≡ cond (nat_lt n m) 1 0 + cond (nat_eq n m) 1 0
below_or_same n m = grind (arith, nat_tests)

at_most_from_not_below : (n m : ℕ) → nat_lt n m ≡ false → nat_le m n ≡ true
at_most_from_not_below n m test = grind (arith, nat_tests)

at_most_from_not_above : (n m : ℕ) → not (nat_le n m) ≡ false → nat_le n m ≡ true
at_most_from_not_above n m test = grind (arith, nat_tests)

not_below_zero : (n : ℕ) → nat_lt n 0 ≡ false
not_below_zero n = grind (arith, nat_tests)

module _ (numbers : List ℕ) (k m : ℕ) (ranked : IsRanked numbers k m) where
  ranked_member : Contains numbers m
  ranked_member =
      let split = count_split (λ n. nat_lt n m) (λ n. nat_eq n m) (λ n. nat_le n m) (λ n. below_or_same n m) numbers in
      member_from_count m numbers (omega (arith, ranked.low, ranked.high, split))

  pub least_ranked : k ≡ 0 → IsLeast numbers m
  least_ranked first = record {
    member = ranked_member;
    none_below =
        let none : count_by (λ n. nat_lt n m) numbers ≡ 0 = omega (arith, ranked.low) in
        let tests = none_from_count (λ n. nat_lt n m) numbers none in
        λ i d within. at_most_from_not_below (get_or numbers i d) m (tests i d within);
  }

  pub greatest_ranked : k + 1 ≡ length numbers → IsGreatest numbers m
  greatest_ranked last = record {
    member = ranked_member;
    none_above =
        let all = count_both (λ n. nat_le n m) numbers in
        let none : count_by (λ n. not (nat_le n m)) numbers ≡ 0 = omega (arith, ranked.high, all) in
        let tests = none_from_count (λ n. not (nat_le n m)) numbers none in
        λ i d within. at_most_from_not_above (get_or numbers i d) m (tests i d within);
  }

  pub median_ranked : 0 < length numbers → k ≡ (length numbers - 1) / 2 → IsLowerMedian numbers m
  median_ranked some middle = record {
    member = ranked_member;
    half = omega (arith, ranked.high, middle);
    fewer_below = omega (arith, ranked.low, middle);
  }

-- ---- a selection narrowed to the rows whose number passes a test

abbrev pub narrowed : (ℕ → Bool) → List Bool → List (Option ℕ) → List Bool
narrowed p selection entries = zip2 (λ f e. f && (is_some e && p (number_or_zero e))) selection entries

-- as many rows are left as numbers pass
pub narrowed_count : (p : ℕ → Bool) (selection : List Bool) (entries : List (Option ℕ)) → count_by (λ b. b) (narrowed p selection entries) ≡ count_by p (values_at selection entries)
narrowed_count p [] entries = refl
narrowed_count p (f ∷ selection) [] = refl
narrowed_count p (false ∷ selection) (e ∷ entries) =
    count_cons (λ b. b) false (narrowed p selection entries) ∙ omega (arith, narrowed_count p selection entries)
narrowed_count p (true ∷ selection) (None ∷ entries) =
    count_cons (λ b. b) false (narrowed p selection entries) ∙ omega (arith, narrowed_count p selection entries)
narrowed_count p (true ∷ selection) (Some n ∷ entries) =
    count_cons (λ b. b) (p n) (narrowed p selection entries) ∙ omega (arith, narrowed_count p selection entries, count_cons p n (values_at selection entries))

narrow_one : (p q r : ℕ → Bool) (g : ℕ → ℕ) → ((n : ℕ) → (p n && q (g n)) ≡ r n) → (f : Bool) (e : Option ℕ)
    → ((f && (is_some e && p (number_or_zero e))) && q (g (number_or_zero e))) ≡ (f && (is_some e && r (number_or_zero e)))
narrow_one p q r g both false e = refl
narrow_one p q r g both true None = refl
narrow_one p q r g both true (Some n) = both n

-- narrowed once more, by a function of the number
pub narrowed_more : (p q r : ℕ → Bool) (g : ℕ → ℕ) → ((n : ℕ) → (p n && q (g n)) ≡ r n) → (selection : List Bool) (entries : List (Option ℕ))
    → zip2 (λ f v. f && q v) (narrowed p selection entries) (map (λ e. g (number_or_zero e)) entries) ≡ narrowed r selection entries
narrowed_more p q r g both [] entries = refl
narrowed_more p q r g both (f ∷ selection) [] = refl
narrowed_more p q r g both (f ∷ selection) (e ∷ entries) = ap₂ ◌∷◌ (narrow_one p q r g both f e) (narrowed_more p q r g both selection entries)

pub narrowed_same : (p q : ℕ → Bool) → ((n : ℕ) → p n ≡ q n) → (selection : List Bool) (entries : List (Option ℕ)) → narrowed p selection entries ≡ narrowed q selection entries
narrowed_same p q same [] entries = refl
narrowed_same p q same (f ∷ selection) [] = refl
narrowed_same p q same (f ∷ selection) (e ∷ entries) =
    ap₂ ◌∷◌ (ap (λ b. f && (is_some e && b)) (same (number_or_zero e))) (narrowed_same p q same selection entries)

-- how many of the chosen rows have a digit that passes
abbrev pub count_where : (ℕ → Bool) → List Bool → List ℕ → ℕ
count_where p chosen digits = count_by (λ b. b) (zip2 (λ f v. f && p v) chosen digits)

pub where_below_zero : (chosen : List Bool) (digits : List ℕ) → count_where (λ v. nat_lt v 0) chosen digits ≡ 0
where_below_zero [] digits = refl
where_below_zero (f ∷ chosen) [] = refl
where_below_zero (f ∷ chosen) (v ∷ digits) =
    count_cons (λ b. b) (f && nat_lt v 0) (zip2 (λ f v. f && nat_lt v 0) chosen digits)
    ∙ ap₂ (λ b n. cond (f && b) 1 0 + n) (not_below_zero v) (where_below_zero chosen digits) ∙ ap {B = ℕ} (λ b. cond b 1 0 + 0) (and-false f)

-- ---- one digit more

apart : (q p : ℕ) (t : Bool) → cond (nat_lt q p || nat_eq q p && t) 1 0 ≡ cond (nat_lt q p) 1 0 + cond (nat_eq q p && t) 1 0
apart q p true = grind (arith, nat_tests)
apart q p false = grind (arith, nat_tests)

lower_parts : (x a b d : ℕ) → d < b → cond (nat_lt x (a * b + d)) 1 0 ≡ cond (nat_lt (x / b) a) 1 0 + cond (nat_eq (x / b) a && nat_lt (x % b) d) 1 0
lower_parts x a b d below =
    let parts : x / b * b + x % b ≡ x = div-add-mod' x b in
    ap {B = ℕ} (λ y. cond (nat_lt y (a * b + d)) 1 0) (sym parts)
    ∙ ap {B = ℕ} (λ t. cond t 1 0) (two_lt b (x % b) d (x / b) a (mod_below x b (omega arith)) below)
    ∙ apart (x / b) a (nat_lt (x % b) d)

-- the rows that are left have this number above the weight, and the rank is that among them
pub record IsNarrowed (weight : ℕ) (selection : List Bool) (entries : List (Option ℕ)) (k number rank : ℕ) (chosen : List Bool) : Type 0 where
  pub chosen_is : chosen ≡ narrowed (λ n. nat_eq (n / weight) number) selection entries
  pub rank_is : k ≡ count_by (λ n. nat_lt (n / weight) number) (values_at selection entries) + rank
  pub there : rank < count_by (λ b. b) chosen

module _ (weight base : ℕ) (selection : List Bool) (entries : List (Option ℕ)) (k number rank : ℕ) (chosen : List Bool) (some : 0 < weight)
    (state : IsNarrowed (weight * base) selection entries k number rank chosen) where
  -- a number's digit of this weight
  abbrev pub digit : ℕ → ℕ
  digit n = n / weight % base

  above : (n : ℕ) → n / weight / base ≡ n / (weight * base)
  above n = div-div-eq-div-mul n weight base

  -- how many of the rows that are left have a digit that passes
  pub count_where_digit : (t : ℕ → Bool) → count_where t chosen (map (λ e. digit (number_or_zero e)) entries)
      ≡ count_by (λ n. nat_eq (n / (weight * base)) number && t (digit n)) (values_at selection entries)
  count_where_digit t =
      ap (λ rows. count_where t rows (map (λ e. digit (number_or_zero e)) entries)) state.chosen_is
      ∙ ap (count_by (λ b. b)) (narrowed_more (λ n. nat_eq (n / (weight * base)) number) t (λ n. nat_eq (n / (weight * base)) number && t (digit n)) digit (λ n. refl) selection entries)
      ∙ narrowed_count (λ n. nat_eq (n / (weight * base)) number && t (digit n)) selection entries

  -- the rows whose digit is that of the rank
  pub narrowed_step : (d rank' : ℕ) (chosen' : List Bool) → d < base
      → chosen' ≡ zip2 (λ f v. f && nat_eq v d) chosen (map (λ e. digit (number_or_zero e)) entries)
      → rank ≡ count_where (λ v. nat_lt v d) chosen (map (λ e. digit (number_or_zero e)) entries) + rank'
      → rank' < count_by (λ b. b) chosen'
      → IsNarrowed weight selection entries k (number * base + d) rank' chosen'
  narrowed_step d rank' chosen' below chosen_is rank_is there =
      let numbers = values_at selection entries in
      let one : (n : ℕ) → (nat_eq (n / (weight * base)) number && nat_eq (digit n) d) ≡ nat_eq (n / weight) (number * base + d) = λ n.
      ap (λ q. nat_eq q number && nat_eq (digit n) d) (sym (above n)) ∙ same_parts (n / weight) number base d below in
      let split = count_split
      (λ n. nat_lt (n / (weight * base)) number) (λ n. nat_eq (n / (weight * base)) number && nat_lt (digit n) d) (λ n. nat_lt (n / weight) (number * base + d))
      (λ n. lower_parts (n / weight) number base d below ∙ ap {B = ℕ} (λ q. cond (nat_lt q number) 1 0 + cond (nat_eq q number && nat_lt (digit n) d) 1 0) (above n))
      numbers in
      record {
        chosen_is = chosen_is
            ∙ ap (λ rows. zip2 (λ f v. f && nat_eq v d) rows (map (λ e. digit (number_or_zero e)) entries)) state.chosen_is
            ∙ narrowed_more (λ n. nat_eq (n / (weight * base)) number) (λ v. nat_eq v d) (λ n. nat_eq (n / weight) (number * base + d)) digit one selection entries;
        rank_is = omega (arith, state.rank_is, rank_is, count_where_digit (λ v. nat_lt v d), split);
        there = there;
      }

-- a test that each number passes leaves the selected rows that have one
start_narrowed : (p : ℕ → Bool) (selection : List Bool) (entries : List (Option ℕ)) → All (λ e. p (number_or_zero e) ≡ true) entries
    → zip2 ◌&&◌ selection (map is_some entries) ≡ narrowed p selection entries
start_narrowed p [] entries all = refl
start_narrowed p (f ∷ selection) [] all = refl
start_narrowed p (f ∷ selection) (e ∷ entries) all =
    ap₂ ◌∷◌
    (ap (λ b. f && b) (sym (and-true (is_some e)) ∙ ap (λ b. is_some e && b) (sym (all 0 e (omega arith)))))
    (start_narrowed p selection entries (λ i d within. all (suc i) d (omega arith)))

equal_test : (n : ℕ) → n ≡ 0 → nat_eq n 0 ≡ true
equal_test n zero_is = grind (arith, nat_tests)

-- the selected rows that have a number are as many as the numbers
pub count_numbers : (selection : List Bool) (entries : List (Option ℕ)) → count_by (λ b. b) (zip2 ◌&&◌ selection (map is_some entries)) ≡ length (values_at selection entries)
count_numbers selection entries =
    ap (count_by (λ b. b)) (start_narrowed (λ n. true) selection entries (λ i d within. refl))
    ∙ narrowed_count (λ n. true) selection entries ∙ count_all (values_at selection entries)

pub no_numbers : (numbers : List ℕ) → length numbers ≡ 0 → numbers ≡ []
no_numbers numbers none = nil_from_length numbers none

module _ (selection : List Bool) (entries : List (Option ℕ)) (k : ℕ) where
  -- at first all selected rows with a number are left
  pub narrowed_start : (size : ℕ) (chosen : List Bool) → All (λ e. number_or_zero e / size ≡ 0) entries
      → chosen ≡ zip2 ◌&&◌ selection (map is_some entries) → k < length (values_at selection entries)
      → IsNarrowed size selection entries k 0 k chosen
  narrowed_start size chosen below chosen_is there =
      let numbers = values_at selection entries in
      let counted = ap (count_by (λ b. b)) chosen_is ∙ count_numbers selection entries in
      record {
        chosen_is = chosen_is ∙ start_narrowed (λ n. nat_eq (n / size) 0) selection entries (λ i d within. equal_test (number_or_zero (get_or entries i d) / size) (below i d within));
        rank_is = let none = count_none (λ n. nat_lt (n / size) 0) (λ n. not_below_zero (n / size)) numbers in omega (arith, none);
        there = omega (arith, there, counted);
      }

  -- in the end each row that is left has the number of the rank
  pub narrowed_extreme : (number rank : ℕ) (chosen : List Bool) → IsNarrowed 1 selection entries k number rank chosen → IsRanked (values_at selection entries) k number
  narrowed_extreme number rank chosen state =
      let numbers = values_at selection entries in
      let whole : (n : ℕ) → n / 1 ≡ n = λ n. omega arith in
      let below = count_same (λ n. nat_lt (n / 1) number) (λ n. nat_lt n number) (λ n. ap (λ q. nat_lt q number) (whole n)) numbers in
      let same = count_same (λ n. nat_eq (n / 1) number) (λ n. nat_eq n number) (λ n. ap (λ q. nat_eq q number) (whole n)) numbers in
      let left = ap (count_by (λ b. b)) state.chosen_is ∙ narrowed_count (λ n. nat_eq (n / 1) number) selection entries in
      let split = count_split (λ n. nat_lt n number) (λ n. nat_eq n number) (λ n. nat_le n number) (λ n. below_or_same n number) numbers in
      record {
        low = omega (arith, state.rank_is, below);
        high = omega (arith, state.rank_is, state.there, below, same, left, split);
      }
