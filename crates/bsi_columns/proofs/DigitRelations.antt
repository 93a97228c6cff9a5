-- How the numbers of two columns under the same bases stand to each other, digit by digit and place by place.
use Rattle.std.proofs.Common.{◌≡◌, ℕ, ◌+◌, ◌*◌, ◌%◌, ◌^◌, ◌<◌, Bool, true, false, not, ◌&&◌, ◌||◌, List, Option, Some, None, is_some, length, get_or, inl, inr, ap, ap₂, sym, ◌∙◌, refl, arith}
use Rattle.std.specs.Prelude.{◌==◌, nat_eq, nat_lt, nat_le}
use Rattle.std.proofs.Math.Nat.{mod-eq_of_lt, mod-one}
use Rattle.std.proofs.lemmas.Bool.{cases_lt}
use Rattle.std.proofs.lemmas.Bool.Decides.{nat_tests}
use Rattle.std.proofs.lemmas.List.{get_or_past}
use Rattle.std.proofs.lemmas.Nat.{mod_below, pow_pos}
use Rattle.bsi_digits.specs.Digits.{product, weight, digit_of, IsBaseList}
use Rattle.bsi_digits.proofs.CallerLemmas.{low_all, low_lt, low_le, low_eq}
use Rattle.bsi_digits.specs.Comparisons.{compares, number_or_zero}
use Rattle.bsi_slices.specs.Decisions.{as_expected}
use Rattle.bsi_slices.specs.Related.{compares_numbers, compares_entries}
use Rattle.bsi_slices.specs.Slices.{bit_value}
use Rattle.bsi_slices.specs.PairRelations.{relation_holds, relation_bit_step}
use Rattle.bsi_slices.specs.declared.slices.related.ColumnComparison.{ColumnComparison}
use Rattle.bsi_slices.specs.declared.pair_relation.PairRelation.{PairRelation}
use Rattle.bsi_slices.specs.declared.pair_relation.PairRelation.TheVariants.{Below, AtMost, Unequal}
use Rattle.bsi_slices.proofs.Related.{compares_more}
use Rattle.bsi_slices.proofs.SliceNumbers.{places_more}
use Rattle.bsi_kernels.specs.Places.{has_place}
use Rattle.bsi_columns.specs.PairRelations.{relation_step}

-- by no place the digits are equal
pub no_places : (relation : PairRelation) (low : Bool) (x y : ℕ) → low ≡ relation_step relation low (x % 1) (y % 1)
no_places relation low x y = sym (ap₂ (relation_step relation low) (mod-one x) (mod-one y))

-- one binary place more of both digits
from_place : (relation : PairRelation) (low : Bool) (x y m : ℕ) (a b : Bool) → x < m → y < m
    → relation_bit_step relation a b (relation_step relation low x y) ≡ relation_step relation low (x + bit_value a * m) (y + bit_value b * m)
from_place Below low x y m true true first second = grind (arith, nat_tests)
from_place Below low x y m true false first second = grind (arith, nat_tests)
from_place Below low x y m false true first second = grind (arith, nat_tests)
from_place Below low x y m false false first second = grind (arith, nat_tests)
from_place AtMost low x y m true true first second = grind (arith, nat_tests)
from_place AtMost low x y m true false first second = grind (arith, nat_tests)
from_place AtMost low x y m false true first second = grind (arith, nat_tests)
from_place AtMost low x y m false false first second = grind (arith, nat_tests)
from_place Unequal low x y m true true first second = grind (arith, nat_tests)
from_place Unequal low x y m true false first second = grind (arith, nat_tests)
from_place Unequal low x y m false true first second = grind (arith, nat_tests)
from_place Unequal low x y m false false first second = grind (arith, nat_tests)

pub places_next : (relation : PairRelation) (low : Bool) (x y k : ℕ) (digits other state : Bool) → digits ≡ has_place k x → other ≡ has_place k y
    → state ≡ relation_step relation low (x % 2 ^ k) (y % 2 ^ k)
    → relation_bit_step relation digits other state ≡ relation_step relation low (x % 2 ^ (k + 1)) (y % 2 ^ (k + 1))
places_next relation low x y k digits other state digits_are other_is state_is =
    ap₂ (λ a b. relation_bit_step relation a b state) digits_are other_is
    ∙ ap (relation_bit_step relation (has_place k x) (has_place k y)) state_is
    ∙ from_place relation low (x % 2 ^ k) (y % 2 ^ k) (2 ^ k) (has_place k x) (has_place k y) (mod_below x (2 ^ k) (pow_pos k)) (mod_below y (2 ^ k) (pow_pos k))
    ∙ ap₂ (relation_step relation low) (sym (places_more x k)) (sym (places_more y k))

-- all places of both digits
pub all_places : (relation : PairRelation) (low : Bool) (x y k n : ℕ) → k ≡ n → x < 2 ^ n → y < 2 ^ n
    → relation_step relation low (x % 2 ^ k) (y % 2 ^ k) ≡ relation_step relation low x y
all_places relation low x y k n all first second =
    ap (λ k. relation_step relation low (x % 2 ^ k) (y % 2 ^ k)) all ∙ ap₂ (relation_step relation low) (mod-eq_of_lt first) (mod-eq_of_lt second)

-- the higher digits decide where they differ
from_below : (q p : ℕ) (low : Bool) → relation_step Below low q p ≡ (nat_lt q p || (q == p) && low)
from_below q p low = grind (arith, nat_tests)

from_at_most : (q p : ℕ) (low : Bool) → relation_step AtMost low q p ≡ (nat_lt q p || (q == p) && low)
from_at_most q p low = grind (arith, nat_tests)

from_unlike : (q p : ℕ) (same : Bool) → relation_step Unequal (not same) q p ≡ not ((q == p) && same)
from_unlike q p same = grind (arith, nat_tests)

-- one component more
pub digits_next : (relation : PairRelation) {bs : List ℕ} → IsBaseList bs → (u v i : ℕ) → i < length bs
    → relation_step relation (relation_holds relation (u % weight bs i) (v % weight bs i)) (digit_of bs u i) (digit_of bs v i) ≡ relation_holds relation (u % weight bs (i + 1)) (v % weight bs (i + 1))
digits_next Below {bs} valid u v i within = from_below (digit_of bs u i) (digit_of bs v i) (nat_lt (u % weight bs i) (v % weight bs i)) ∙ sym (low_lt valid u v i within)
digits_next AtMost {bs} valid u v i within = from_at_most (digit_of bs u i) (digit_of bs v i) (nat_le (u % weight bs i) (v % weight bs i)) ∙ sym (low_le valid u v i within)
digits_next Unequal {bs} valid u v i within =
    from_unlike (digit_of bs u i) (digit_of bs v i) (nat_eq (u % weight bs i) (v % weight bs i)) ∙ ap not (sym (low_eq valid u v i within))

-- all components
pub all_digits : (relation : PairRelation) (bs : List ℕ) (u v i : ℕ) → i ≡ length bs → u < product bs → v < product bs
    → relation_holds relation (u % weight bs i) (v % weight bs i) ≡ relation_holds relation u v
all_digits relation bs u v i all first second =
    ap (λ i. relation_holds relation (u % weight bs i) (v % weight bs i)) all ∙ ap₂ (relation_holds relation) (low_all bs u first) (low_all bs v second)

-- the comparison that is wanted, where the same is added to both numbers
pub expected_holds : (comparison : ColumnComparison) → comparison.left_addend ≡ comparison.right_addend → (relation : PairRelation) (expected : Bool) (x y : ℕ)
    → compares comparison.op x y ≡ as_expected expected (relation_holds relation x y) → as_expected expected (relation_holds relation x y) ≡ compares_numbers comparison x y
expected_holds comparison even relation expected x y agree =
    sym agree ∙ sym (compares_more comparison.op x y comparison.left_addend) ∙ ap (λ m. compares comparison.op (x + comparison.left_addend) (y + m)) even

-- a row is there where its entry is a number
pub row_within : (entries : List (Option ℕ)) (r : ℕ) → is_some (get_or entries r None) ≡ true → r < length entries
row_within entries r there = elim (cases_lt r (length entries)) [
  | inl within ↦ within
  | inr past ↦ absurd (never (sym (ap is_some (get_or_past entries r None past)) ∙ there))
]
  where
    never : false ≡ true → ⊥
    never is = cc

-- a row is kept where both entries are numbers, and these compare so
pub entries_narrowed : (comparison : ColumnComparison) (was answer : Bool) (first second : Option ℕ)
    → (is_some first ≡ true → answer ≡ compares_numbers comparison (number_or_zero first) (number_or_zero second))
    → (((was && is_some first) && is_some second) && answer) ≡ (was && compares_entries comparison first second)
entries_narrowed comparison true answer (Some x) (Some y) is = is refl
entries_narrowed comparison true answer (Some x) None is = refl
entries_narrowed comparison true answer None second is = refl
entries_narrowed comparison false answer first second is = refl
