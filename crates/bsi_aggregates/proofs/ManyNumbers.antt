-- Different numbers of a selection, in their order, are different entries of it.
use Rattle.std.proofs.Common.{Less, Greater, Equal, ◌≡◌, ℕ, ◌<◌, true, false, List, [], ◌∷◌, Bool, Option, ℤ, Some, None, All, Contains, cond, length, map, refl, ap, sym, subst, ◌∙◌, arith}
use Rattle.std.specs.Prelude.{filter_map, int_lt, pos, IsTrue}
use Rattle.std.specs.List.{items_where_true, AllPairs}
use Rattle.std.specs.List.Retain.{DiffersFromLast, IsFiltered}
use Rattle.std.specs.List.Sorted.{IsPermutation, IsSorted, IsStrictlySortedBy}
use Rattle.std.specs.Ordering.{int_cmp, int_eq}
use Rattle.std.proofs.lemmas.Cmp.{int_cmp_total}
use Rattle.std.proofs.lemmas.List.{length-map}
use Rattle.std.proofs.lemmas.List.Elements.{All-contains_itself, All-map, All-weaker}
use Rattle.std.proofs.lemmas.List.Filters.{dedup_is}
use Rattle.std.proofs.lemmas.List.Kept.{AllPairs-cons, Contains-from_dedup, IsStrictlySortedBy-dedup}
use Rattle.std.proofs.lemmas.List.Sorted.{Contains-permutation, IsPermutation-sym}
use Rattle.std.proofs.lemmas.Map.Keys.{sorted_tail}
use Rattle.std.proofs.lemmas.Map.Views.{All-after_first}
use Rattle.bsi_digits.specs.Orders.{values_at}
use Rattle.bsi_aggregates.specs.Entries.{comes_before}
use Rattle.bsi_aggregates.specs.ColumnGroups.{AreMoreEntries}
use Rattle.bsi_aggregates.proofs.FirstEntries.{number_there}
use Rattle.bsi_aggregates.proofs.GroupOrder.{all_pairs_map}

abbrev Below : ℤ → ℤ → Type 0
Below x y = IsTrue (int_lt x y)

below : (x y : ℤ) → int_cmp x y ≡ Less → int_lt x y ≡ true
below x y is = by (int_lt x y) (int_lt y x) is
  where
    by : (a b : Bool) → cond a Less (cond b Greater Equal) ≡ Less → a ≡ true
    by true b is = refl
    by false true is = cc
    by false false is = cc

-- numbers in strict order
strict_pairs : (xs : List ℤ) → IsStrictlySortedBy int_cmp xs → AllPairs Below xs
strict_pairs [] sorted = λ i j d before within. absurd (omega arith)
strict_pairs (x ∷ xs) sorted =
    AllPairs-cons Below x xs (All-weaker (λ y. int_cmp x y ≡ Less) (Below x) (λ y is. below x y is) xs (All-after_first int_cmp x xs sorted))
    (strict_pairs xs (sorted_tail int_cmp x xs sorted))

module _ (numbers sorted kept : List ℤ) (moved : IsPermutation numbers sorted) (filtered : IsFiltered (DiffersFromLast int_eq) [] sorted kept) where
  -- numbers that are sorted, each once, rise
  pub kept_rise : IsSorted int_cmp sorted → AllPairs Below kept
  kept_rise in_order =
      strict_pairs kept (subst (IsStrictlySortedBy int_cmp) (sym (dedup_is int_eq sorted kept filtered)) (IsStrictlySortedBy-dedup int_cmp_total (λ x y. refl) sorted in_order))

  -- and each is one of those before
  pub kept_had : All (Contains numbers) kept
  kept_had =
      All-weaker (Contains kept) (Contains numbers)
      (λ n has. Contains-permutation sorted numbers n (IsPermutation-sym numbers sorted moved)
      (Contains-from_dedup int_eq sorted n (subst (λ (ns : List ℤ). Contains ns n) (dedup_is int_eq sorted kept filtered) has)))
      kept (All-contains_itself kept)

-- so many of them are more entries than fewer
pub many_numbers : (selection : List Bool) (entries : List (Option ℤ)) (numbers : List ℤ) (most : ℕ) → AllPairs Below numbers
    → All (Contains (values_at selection entries)) numbers → most < length numbers → AreMoreEntries most (items_where_true selection entries)
many_numbers selection entries numbers most rise had many = record {
  some = map Some numbers;
  rise = all_pairs_map (λ x y. IsTrue (comes_before x y)) Some (pos 0) numbers rise;
  had = All-map (Contains (items_where_true selection entries)) Some numbers
      (All-weaker (Contains (values_at selection entries)) (λ n. Contains (items_where_true selection entries) (Some n)) (λ n there. number_there (items_where_true selection entries) n there) numbers had);
  many = omega (arith, many, length-map numbers (λ (n : ℤ). Some n));
}
