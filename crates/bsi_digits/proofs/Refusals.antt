-- Which lists of bases are refused.
use Rattle.std.proofs.Common.{◌≡◌, ℕ, ◌-◌, ◌<◌, ◌≤◌, Bool, true, false, cond, nat_lt, nat_eq, List, length, get_or, reverse, sum, Option, Some, None, position, refl, sym, ◌∙◌, subst, arith, ◌⊎◌, inl, inr, if◌then◌else◌}
use Rattle.std.specs.List.{position_or_len}
use Rattle.std.proofs.lemmas.Bool.{cases_lt}
use Rattle.std.proofs.lemmas.Bool.Decides.{nat_tests}
use Rattle.std.proofs.lemmas.List.{get_or-reverse, length-reverse, reverse-reverse}
use Rattle.std.proofs.lemmas.List.Sums.{fails_before_first, position_or_len_is}
use Rattle.std.proofs.lemmas.List.Sorted.{IsPermutation-reverse, sum_by-IsPermutation}
use Rattle.bsi_digits.specs.declared.bases_error.BasesError.{BasesError}
use Rattle.bsi_digits.specs.declared.bases_error.BasesError.TheVariants.{Empty, TooMany, TooWide, ProductTooLarge}
use Rattle.bsi_digits.specs.Digits.{max_base, max_bases, max_size, max_sum, product, IsBase, IsBaseList}
use Rattle.bsi_digits.specs.Refusal.{refusal, refusal_at, is_bad_base}
use Rattle.bsi_digits.proofs.Products.{product-reverse}

good_base : (b : ℕ) → is_bad_base b ≡ false → IsBase b
good_base b good = (grind (arith, nat_tests), grind (arith, nat_tests))

past_all_by : (index n : ℕ) → (index < n) ⊎ (n ≤ index) → cond (nat_lt index n) (Some index) None ≡ None → n ≤ index
past_all_by index n (inr past) none = past
past_all_by index n (inl before) none =
    let test : nat_lt index n ≡ true = grind (arith, nat_tests) in
    let wrong : Some index ≡ None = rw test at none in
    cc

past_all : (index n : ℕ) → cond (nat_lt index n) (Some index) None ≡ None → n ≤ index
past_all index n none = past_all_by index n (cases_lt index n) none

bad_from_base : (b : ℕ) → IsBase b → is_bad_base b ≡ false
bad_from_base b good =
    let least : 2 ≤ b = good.0 in
    let most : b ≤ max_base = good.1 in
    grind (arith, nat_tests)

-- no place is out of range
each_from_position : (bs : List ℕ) → position is_bad_base bs ≡ None → (i : ℕ) → i < length bs → IsBase (get_or bs i 0)
each_from_position bs none i h =
    let past : length bs ≤ position_or_len is_bad_base bs = past_all (position_or_len is_bad_base bs) (length bs) none in
    good_base (get_or bs i 0) (fails_before_first is_bad_base bs i 0 (omega arith))

-- bases that pass each test but that of the product
pub record IsPastSum (bs : List ℕ) : Type 0 where
  pub some : 0 < length bs
  pub few : length bs ≤ max_bases
  pub good : position is_bad_base bs ≡ None
  pub narrow : sum bs ≤ max_sum

past_sum : (bs : List ℕ) → IsPastSum bs → refusal bs ≡ (if nat_lt max_size (product bs) then Some ProductTooLarge else None)
past_sum bs past =
    let one : nat_eq (length bs) 0 ≡ false = grind (arith, nat_tests) in
    let two : nat_lt max_bases (length bs) ≡ false = grind (arith, nat_tests) in
    let good : position is_bad_base bs ≡ None = past.good in
    let four : nat_lt max_sum (sum bs) ≡ false = grind (arith, nat_tests) in
    rw (one, two, good, four) refl

pub refusal_is_none : (bs : List ℕ) → IsPastSum bs → product bs ≤ max_size → refusal bs ≡ None
refusal_is_none bs past small =
    let five : nat_lt max_size (product bs) ≡ false = grind (arith, nat_tests) in
    past_sum bs past ∙ rw five refl

pub refusal_is_large : (bs : List ℕ) → IsPastSum bs → max_size < product bs → refusal bs ≡ Some ProductTooLarge
refusal_is_large bs past large =
    let five : nat_lt max_size (product bs) ≡ true = grind (arith, nat_tests) in
    past_sum bs past ∙ rw five refl

-- and the other way round
position_from_each : (bs : List ℕ) → ((i : ℕ) → i < length bs → IsBase (get_or bs i 0)) → position is_bad_base bs ≡ None
position_from_each bs each =
    let good = λ (i : ℕ) (h : i < length bs). bad_from_base (get_or bs i 0) (each i h) in
    let whole : position_or_len is_bad_base bs ≡ length bs =
    position_or_len_is is_bad_base bs (length bs) 0 (omega arith) good (λ h. absurd (omega arith)) in
    let test : nat_lt (position_or_len is_bad_base bs) (length bs) ≡ false = grind (arith, nat_tests) in
    rw test refl

each_reversed : (P : ℕ → Type 0) (bs : List ℕ) → ((i : ℕ) → i < length bs → P (get_or bs i 0)) →
    (i : ℕ) → i < length (reverse bs) → P (get_or (reverse bs) i 0)
each_reversed P bs each i h =
    let long : length (reverse bs) ≡ length bs = length-reverse bs in
    subst P (sym (get_or-reverse bs i 0 (omega arith))) (each (length bs - 1 - i) (omega arith))

-- the order of the bases counts for nothing
base_list_reversed : (bs : List ℕ) → IsBaseList bs → IsBaseList (reverse bs)
base_list_reversed bs valid =
    let long : length (reverse bs) ≡ length bs = length-reverse bs in
    let whole : product (reverse bs) ≡ product bs = product-reverse bs in
    let wide : sum (reverse bs) ≡ sum bs = sum_by-IsPermutation (λ x. x) bs (reverse bs) (IsPermutation-reverse bs) in
    record {
      some = omega (arith, valid.some);
      few = omega (arith, valid.few);
      each = each_reversed IsBase bs valid.each;
      narrow = omega (arith, valid.narrow);
      small = omega (arith, valid.small);
    }

pub refusal_from_base_list_as_written : (bs : List ℕ) → IsBaseList bs → refusal bs ≡ None
refusal_from_base_list_as_written bs valid =
    let past : IsPastSum bs = record {
      some = valid.some;
      few = valid.few;
      good = position_from_each bs valid.each;
      narrow = valid.narrow;
    } in
    refusal_is_none bs past valid.small

pub refusal-from_base_list : (bs : List ℕ) → IsBaseList (reverse bs) → refusal bs ≡ None
refusal-from_base_list bs valid =
    refusal_from_base_list_as_written bs (subst IsBaseList (reverse-reverse bs) (base_list_reversed (reverse bs) valid))

-- what each test that is passed says
if_none : {A : Type 0} (b : Bool) (x : A) (rest : Option A) → (if b then Some x else rest) ≡ None → (b ≡ false) × (rest ≡ None)
if_none true x rest none = (cc, cc)
if_none false x rest none = (refl, none)

refusal_at_none : (index : Option ℕ) (bs : List ℕ) → refusal_at index bs ≡ None →
    (index ≡ None) × ((if nat_lt max_sum (sum bs) then Some TooWide else if nat_lt max_size (product bs) then Some ProductTooLarge else None) ≡ None)
refusal_at_none (Some index) bs none = (cc, cc)
refusal_at_none None bs none = (refl, none)

base_list_as_written : (bs : List ℕ) → refusal bs ≡ None → IsBaseList bs
base_list_as_written bs none =
    let past_index : Option BasesError = refusal_at (position is_bad_base bs) bs in
    let past_empty = if_none (nat_eq (length bs) 0) Empty (if nat_lt max_bases (length bs) then Some TooMany else past_index) none in
    let past_many = if_none (nat_lt max_bases (length bs)) TooMany past_index past_empty.1 in
    let past_bases = refusal_at_none (position is_bad_base bs) bs past_many.1 in
    let past_wide = if_none (nat_lt max_sum (sum bs)) TooWide (if nat_lt max_size (product bs) then Some ProductTooLarge else None) past_bases.1 in
    let past_large = if_none (nat_lt max_size (product bs)) ProductTooLarge None past_wide.1 in
    let one : nat_eq (length bs) 0 ≡ false = past_empty.0 in
    let two : nat_lt max_bases (length bs) ≡ false = past_many.0 in
    let four : nat_lt max_sum (sum bs) ≡ false = past_wide.0 in
    let five : nat_lt max_size (product bs) ≡ false = past_large.0 in
    record {
      some = grind (arith, nat_tests);
      few = grind (arith, nat_tests);
      each = each_from_position bs past_bases.0;
      narrow = grind (arith, nat_tests);
      small = grind (arith, nat_tests);
    }

pub IsBaseList-from_refusal : (bs : List ℕ) → refusal bs ≡ None → IsBaseList (reverse bs)
IsBaseList-from_refusal bs none = base_list_reversed bs (base_list_as_written bs none)
