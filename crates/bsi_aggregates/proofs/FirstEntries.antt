-- The first entry of a selection, by its least number.
use Rattle.std.proofs.Common.{◌≡◌, ◌<◌, Bool, true, false, List, [], ◌∷◌, ℤ, Some, None, Option, All, Contains, length, cond, inl, inr, refl, ap, sym, subst, arith}
use Rattle.std.specs.Prelude.{count_by, filter_map, not, int_le, int_lt, IsTrue}
use Rattle.std.specs.List.{items_where_true}
use Rattle.std.proofs.lemmas.Bool.Decides.{nat_tests}
use Rattle.std.proofs.lemmas.Int.{ints}
use Rattle.std.proofs.lemmas.List.Elements.{All-cons, All-get_or, All-head, All-nil, All-tail, All-weaker, Contains-append_cases, Contains-append_left, Contains-append_right, Contains-get_or, Contains-push, Contains-push_cases}
use Rattle.std.proofs.lemmas.List.Sums.{sum_by-cons}
use Rattle.bsi_digits.specs.Orders.{IsLeastBy}
use Rattle.bsi_digits.specs.WholeNumbers.{signed_order}
use Rattle.bsi_aggregates.specs.Entries.{comes_before, IsFirst}

abbrev pub numbers : List (Option ℤ) → List ℤ
numbers entries = filter_map (λ e. e) entries

-- a number among them stands there as an entry
pub number_there : (entries : List (Option ℤ)) (n : ℤ) → Contains (numbers entries) n → Contains entries (Some n)
number_there [] n there = absurd (omega (arith, there.1))
number_there (None ∷ entries) n there = Contains-append_right (None ∷ []) entries (Some n) (number_there entries n there)
number_there (Some x ∷ entries) n there = elim (Contains-append_cases (x ∷ []) (numbers entries) n there) [
  | inr later ↦ Contains-append_right (Some x ∷ []) entries (Some n) (number_there entries n later)
  | inl here ↦ elim (Contains-push_cases [] x n here) [
    | inl none ↦ absurd (omega (arith, none.1))
    | inr is ↦ Contains-append_left (Some x ∷ []) entries (Some n) (subst (λ y. Contains (Some x ∷ []) (Some y)) is (Contains-push [] (Some x)))
  ]
]

not_below : (x n : ℤ) → int_le n x ≡ true → not (int_lt x n) ≡ true
not_below x n at_most = grind (arith, ints, nat_tests)

-- none comes before a number that is at most each
none_before : (entries : List (Option ℤ)) (n : ℤ) → All (λ x. IsTrue (int_le n x)) (numbers entries) → All (λ e. IsTrue (not (comes_before e (Some n)))) entries
none_before [] n all = All-nil (λ e. IsTrue (not (comes_before e (Some n))))
none_before (None ∷ entries) n all = All-cons (λ e. IsTrue (not (comes_before e (Some n)))) None entries refl (none_before entries n all)
none_before (Some x ∷ entries) n all =
    All-cons (λ e. IsTrue (not (comes_before e (Some n)))) (Some x) entries
    (not_below x n (All-head (λ x. IsTrue (int_le n x)) x (numbers entries) all))
    (none_before entries n (All-tail (λ x. IsTrue (int_le n x)) x (numbers entries) all))

pub first_number : (entries : List (Option ℤ)) (n : ℤ) → IsLeastBy signed_order (numbers entries) n → IsFirst entries (Some n)
first_number entries n least = record { member = number_there entries n least.member; none_before = none_before entries n least.none_below }

-- where there is no number each entry is a null
all_null : (entries : List (Option ℤ)) → numbers entries ≡ [] → All (λ e. e ≡ None) entries
all_null [] none = All-nil (λ (e : Option ℤ). e ≡ None)
all_null (None ∷ entries) none = All-cons (λ e. e ≡ None) None entries refl (all_null entries none)
all_null (Some x ∷ entries) none = absurd (omega (arith, ap length none))

pub first_null : (entries : List (Option ℤ)) → numbers entries ≡ [] → 0 < length entries → IsFirst entries None
first_null entries none some =
    let null = all_null entries none in record {
      member = subst (Contains entries) (All-get_or (λ e. e ≡ None) entries 0 None some null) (Contains-get_or entries 0 None some);
      none_before = All-weaker (λ e. e ≡ None) (λ e. IsTrue (not (comes_before e None))) (λ e is. subst (λ e. IsTrue (not (comes_before e None))) (sym is) refl) entries null;
    }

-- a selection has as many entries as rows
pub entries_counted : {X : Type 0} (selection : List Bool) (entries : List X) → length entries ≡ length selection
    → length (items_where_true selection entries) ≡ count_by (λ b. b) selection
entries_counted [] [] same = refl
entries_counted [] (e ∷ entries) same = absurd (omega arith)
entries_counted (f ∷ selection) [] same = absurd (omega arith)
entries_counted (true ∷ selection) (e ∷ entries) same = omega (arith, entries_counted selection entries (omega arith), sum_by-cons (λ b. cond b 1 0) true selection)
entries_counted (false ∷ selection) (e ∷ entries) same = omega (arith, entries_counted selection entries (omega arith), sum_by-cons (λ b. cond b 1 0) false selection)
