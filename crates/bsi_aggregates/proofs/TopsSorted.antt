-- The first rows in order.
use Rattle.std.proofs.Common.{◌≡◌, ◌≢◌, ◌<◌, ◌∷◌, [], ℕ, zero, suc, ℤ, Bool, true, false, true≢false, List, Option, Some, None, Contains, eqb, length, map, take, get_or, inl, inr, refl, ap₂, sym, subst, ◌∙◌, arith}
use Rattle.std.specs.Prelude.{◌⊎◌, ◌&&◌, ◌||◌, AllPairs, IsPermutation, IsSome, IsSortedBy, IsTrue, int_lt, is_some, nat_lt}
use Rattle.std.specs.Cmp.{IsStrictWeakOrder}
use Rattle.std.specs.Ordering.{int_eq}
use Rattle.std.specs.Simd.Lanes.{zip2}
use Rattle.std.proofs.lemmas.Bool.{and_parts, and_right, cases_lt}
use Rattle.std.proofs.lemmas.Bool.Decides.{nat_tests, Decides-eqb, Decides-int_eq}
use Rattle.std.proofs.lemmas.Int.{ints}
use Rattle.std.proofs.lemmas.List.{get_or-map, get_or-take, get_or_default, length-map, length-take, length-take-le}
use Rattle.std.proofs.lemmas.List.Elements.{All-take, All-weaker}
use Rattle.std.proofs.lemmas.List.Sorted.{sorted_far, length_permutation, All-permutation, Contains-permutation, IsPermutation-map}
use Rattle.std.proofs.lemmas.Map.Keys.{IsDistinct-IsPermutation}
use Rattle.std.proofs.lemmas.Map.Made.{AllPairs-from_IsDistinct, IsDistinct-from_AllPairs}
use Rattle.bsi_aggregates.specs.Tops.{is_ahead, AreFirst, AreTop, HaveNumbers, IsAfterFullList, IsRowOf}
use Rattle.bsi_digits.specs.declared.extreme.Extreme.{Extreme}
use Rattle.bsi_digits.specs.declared.extreme.Extreme.TheVariants.{Greatest, Least}
use Rattle.bsi_aggregates.specs.declared.tops.TopRow.{TopRow}
use Rattle.bsi_aggregates.proofs.TopsFirst.{all_pairs_take}

-- the order of rows, where the greatest numbers come first
module _ (x y z : ℤ) (i j k : ℕ) where
  one_way_above : (int_lt y x || (int_eq x y && nat_lt i j)) ≡ true → (int_lt x y || (int_eq y x && nat_lt j i)) ≡ false
  one_way_above first = grind (arith, ints, nat_tests, Decides-int_eq)

  chain_above : (int_lt y x || (int_eq x y && nat_lt i j)) ≡ false → (int_lt z y || (int_eq y z && nat_lt j k)) ≡ false → (int_lt z x || (int_eq x z && nat_lt i k)) ≡ false
  chain_above first second = grind (arith, ints, nat_tests, Decides-int_eq)

  one_first_above : i ≢ j → (int_lt x y || (int_eq y x && nat_lt j i)) ≡ false → (int_lt y x || (int_eq x y && nat_lt i j)) ≡ true
  one_first_above apart not_before = grind (arith, ints, nat_tests, Decides-int_eq)

-- and where the least do
module _ (x y z : ℤ) (i j k : ℕ) where
  one_way_below : (int_lt x y || (int_eq x y && nat_lt i j)) ≡ true → (int_lt y x || (int_eq y x && nat_lt j i)) ≡ false
  one_way_below first = grind (arith, ints, nat_tests, Decides-int_eq)

  chain_below : (int_lt x y || (int_eq x y && nat_lt i j)) ≡ false → (int_lt y z || (int_eq y z && nat_lt j k)) ≡ false → (int_lt x z || (int_eq x z && nat_lt i k)) ≡ false
  chain_below first second = grind (arith, ints, nat_tests, Decides-int_eq)

  one_first_below : i ≢ j → (int_lt y x || (int_eq y x && nat_lt j i)) ≡ false → (int_lt x y || (int_eq x y && nat_lt i j)) ≡ true
  one_first_below apart not_before = grind (arith, ints, nat_tests, Decides-int_eq)

pub ahead_orders : (extreme : Extreme) → IsStrictWeakOrder (is_ahead extreme)
ahead_orders Greatest = record {
  one_way = λ x y first. one_way_above x.number y.number y.number x.row y.row y.row first;
  chain = λ x y z first second. chain_above x.number y.number z.number x.row y.row z.row first second;
}
ahead_orders Least = record {
  one_way = λ x y first. one_way_below x.number y.number y.number x.row y.row y.row first;
  chain = λ x y z first second. chain_below x.number y.number z.number x.row y.row z.row first second;
}

-- of two rows one comes before the other
one_first : (extreme : Extreme) (x y : TopRow) → x.row ≢ y.row → is_ahead extreme y x ≡ false → is_ahead extreme x y ≡ true
one_first Greatest x y apart not_before = one_first_above x.number y.number y.number x.row y.row y.row apart not_before
one_first Least x y apart not_before = one_first_below x.number y.number y.number x.row y.row y.row apart not_before

-- keys that differ stay so when they change places
once_more : (xs ys : List ℕ) → IsPermutation xs ys → AllPairs (λ x y. x ≢ y) xs → AllPairs (λ x y. x ≢ y) ys
once_more xs ys moved once =
    AllPairs-from_IsDistinct Decides-eqb ys
    (IsDistinct-IsPermutation eqb (λ x y. flips x y) xs ys moved (IsDistinct-from_AllPairs Decides-eqb xs once))
  where
    flips : (x y : ℕ) → eqb x y ≡ eqb y x
    flips x y = grind (arith, nat_tests)

module _ (extreme : Extreme) (most : ℕ) where
  -- of rows in order, one is among the first so many, or past them
  among_or_past : (sorted : List TopRow) (row : TopRow) → AllPairs (λ x y. IsTrue (is_ahead extreme x y)) sorted → Contains sorted row
      → Contains (take most sorted) row ⊎ IsAfterFullList extreme most (take most sorted) row
  among_or_past sorted row rise there =
      let long = length-take most sorted in
      elim (cases_lt there.0 most) [
        | inl within ↦ inl (there.0, omega (arith, long, within, there.1), get_or-take most sorted there.0 row within ∙ there.2)
        | inr past ↦
            inr (
              length-take-le most sorted (omega (arith, past, there.1)),
              λ k d below.
                  let before : k < most = omega (arith, long, below) in
                  let same = get_or_default (take most sorted) k d row below ∙ get_or-take most sorted k row before in
                  subst (λ x. IsTrue (is_ahead extreme x row)) (sym same)
                  (subst (λ y. IsTrue (is_ahead extreme (get_or sorted k row) y)) there.2 (rise k there.0 row (omega (arith, before, past)) there.1)),
            )
      ]

  module _ (selection : List Bool) (entries : List (Option ℤ)) where
    -- the first rows, sorted and cut
    pub sorted_top : (listed sorted : List TopRow) → AreFirst extreme most selection entries listed → IsPermutation listed sorted → IsSortedBy (is_ahead extreme) sorted
        → AreTop extreme most selection entries (take most sorted)
    sorted_top listed sorted are moved up =
        let once = once_more (map (λ row. row.row) listed) (map (λ row. row.row) sorted) (IsPermutation-map (λ row. row.row) listed sorted moved) are.once in
        let long : length sorted ≡ length listed = length_permutation listed sorted moved in
        let rise : AllPairs (λ x y. IsTrue (is_ahead extreme x y)) sorted =
        λ i j d before within.
        one_first extreme (get_or sorted i d) (get_or sorted j d)
        (λ same. once i j d.row before (omega (arith, within, length-map sorted (λ (row : TopRow). row.row)))
        (get_or-map (λ (row : TopRow). row.row) sorted i d d.row (omega (arith, before, within)) ∙ same
        ∙ sym (get_or-map (λ (row : TopRow). row.row) sorted j d d.row within)))
        (sorted_far (is_ahead extreme) (ahead_orders extreme) sorted up i j d (omega arith) within) in record {
          rise = all_pairs_take (λ x y. IsTrue (is_ahead extreme x y)) most sorted rise;
          had = All-take (IsRowOf selection entries) most sorted (All-permutation (IsRowOf selection entries) listed sorted moved are.had);
          few = omega (arith, length-take most sorted);
          first = λ row is. elim (are.first row is) [
            | inl there ↦ among_or_past sorted row rise (Contains-permutation listed sorted row moved there)
            | inr behind ↦
                inr (
                  length-take-le most sorted (omega (arith, long, behind.0)),
                  All-take (λ x. IsTrue (is_ahead extreme x row)) most sorted (All-permutation (λ x. IsTrue (is_ahead extreme x row)) listed sorted moved behind.1),
                )
          ];
        }

-- ---- a selection without its null rows

abbrev numbered : List Bool → List (Option ℤ) → List Bool
numbered selection entries = zip2 ◌&&◌ selection (map is_some entries)

numbered_at : (selection : List Bool) (entries : List (Option ℤ)) (r : ℕ)
    → get_or (numbered selection entries) r false ≡ (get_or selection r false && is_some (get_or entries r None))
numbered_at [] [] r = refl
numbered_at (f ∷ selection) [] r = sym (and_right (get_or (f ∷ selection) r false) false refl)
numbered_at [] (e ∷ entries) r = refl
numbered_at (f ∷ selection) (e ∷ entries) zero = refl
numbered_at (f ∷ selection) (e ∷ entries) (suc r) = numbered_at selection entries r

some_there : (entry : Option ℤ) → is_some entry ≡ true → IsSome entry
some_there None is = absurd (true≢false (sym is))
some_there (Some n) is = refl

module _ (selection : List Bool) (entries : List (Option ℤ)) where
  numbered_set : (r : ℕ) → get_or (numbered selection entries) r false ≡ true → (get_or selection r false ≡ true) × IsSome (get_or entries r None)
  numbered_set r set =
      let parts = and_parts (get_or selection r false) (is_some (get_or entries r None)) (sym (numbered_at selection entries r) ∙ set) in
      (parts.0, some_there (get_or entries r None) parts.1)

  pub numbered_have : HaveNumbers (numbered selection entries) entries
  numbered_have r set = (numbered_set r set).1

  -- it has the same first rows
  pub top_of_numbered : (extreme : Extreme) (most : ℕ) (listed : List TopRow) → AreTop extreme most (numbered selection entries) entries listed → AreTop extreme most selection entries listed
  top_of_numbered extreme most listed top = record {
    rise = top.rise;
    had = All-weaker (IsRowOf (numbered selection entries) entries) (IsRowOf selection entries) (λ row is. ((numbered_set row.row is.0).0, is.1)) listed top.had;
    few = top.few;
    first = λ row is. top.first row (numbered_at selection entries row.row ∙ ap₂ (λ a e. a && is_some e) is.0 is.1, is.1);
  }
