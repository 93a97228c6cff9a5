-- The first rows of a selection: those whose number is beyond that of a rank, and the first of those that have it.
use Rattle.std.proofs.Common.{◌≡◌, ◌≢◌, ◌+◌, ◌-◌, ◌<◌, ◌≤◌, ◌++◌, ◌∷◌, [], ℕ, zero, suc, ℤ, pos, Bool, true, false, true≢false, cond, List, Option, Some, None, All, Contains, length, map, take, get_or, inl, inr, refl, ap, ap₂, sym, subst, ◌∙◌, arith, length-append}
use Rattle.std.specs.Prelude.{◌⊎◌, ◌&&◌, ◌||◌, AllPairs, IsSome, IsTrue, count_by, int_le, int_lt, nat_lt, unwrap_or}
use Rattle.std.specs.Ordering.{int_eq}
use Rattle.std.proofs.lemmas.Bool.{and_parts, cases_Bool}
use Rattle.std.proofs.lemmas.Bool.Decides.{nat_tests, Decides-int_eq}
use Rattle.std.proofs.lemmas.Int.{ints}
use Rattle.std.proofs.lemmas.List.{get_or-map, length-map, length-take-le, map-append, take_all}
use Rattle.std.proofs.lemmas.List.Elements.{All-append, All-contains, All-contains_itself, All-head, All-map, All-tail, All-take, All-weaker, Contains-append_left, Contains-append_right}
use Rattle.std.proofs.lemmas.List.Kept.{AllPairs-cons}
use Rattle.std.proofs.lemmas.List.Sums.{sum_by-cons}
use Rattle.bsi_bits.specs.BitList.{set_positions}
use Rattle.bsi_digits.specs.Orders.{compares_by}
use Rattle.bsi_digits.specs.Ranks.{IsSignedRanked}
use Rattle.bsi_digits.specs.WholeNumbers.{signed_order, signed_selects}
use Rattle.bsi_digits.specs.declared.op.Op.{Op}
use Rattle.bsi_digits.specs.declared.op.Op.TheVariants.{Eq}
use Rattle.bsi_aggregates.specs.Tops.{compared, is_ahead, is_beyond, op_beyond, rows_at, AreFirst, HaveNumbers, IsAfterLongList, IsBoundRank, IsRowOf}
use Rattle.bsi_digits.specs.declared.extreme.Extreme.{Extreme}
use Rattle.bsi_digits.specs.declared.extreme.Extreme.TheVariants.{Greatest, Least}
use Rattle.bsi_aggregates.specs.declared.tops.TopRow.{TopRow}
use Rattle.bsi_aggregates.proofs.TopsPlaces.{among_or_past, compared_at, place_there, places_count, places_once, places_set}

-- ---- counts of numbers

count_sum : (p q s : ℤ → Bool) → ((x : ℤ) → cond (p x) 1 0 + cond (q x) 1 0 ≡ cond (s x) 1 0) → (xs : List ℤ) → count_by p xs + count_by q xs ≡ count_by s xs
count_sum p q s both [] = refl
count_sum p q s both (x ∷ xs) =
    omega (arith, both x, count_sum p q s both xs, sum_by-cons (λ x. cond (p x) 1 0) x xs, sum_by-cons (λ x. cond (q x) 1 0) x xs, sum_by-cons (λ x. cond (s x) 1 0) x xs)

count_all : (xs : List ℤ) → count_by (λ x. true) xs ≡ length xs
count_all [] = refl
count_all (x ∷ xs) = omega (arith, count_all xs, sum_by-cons (λ x. cond true 1 0) x xs)

below_or_same : (x t : ℤ) → cond (int_lt x t) 1 0 + cond (int_le x t && int_le t x) 1 0 ≡ cond (int_le x t) 1 0
below_or_same x t = grind (arith, ints, nat_tests)

above_or_not : (x t : ℤ) → cond (int_lt t x) 1 0 + cond (int_le x t) 1 0 ≡ cond true 1 0
above_or_not x t = grind (arith, ints, nat_tests)

-- at most `most` numbers are beyond the one of the rank, and more are beyond it or the same
pub bounds : (extreme : Extreme) (numbers : List ℤ) (most rank : ℕ) (t : ℤ) → IsBoundRank extreme (length numbers) most rank → IsSignedRanked rank numbers t
    → (count_by (λ n. is_beyond extreme n t) numbers ≤ most)
    × (most < count_by (λ n. is_beyond extreme n t) numbers + count_by (λ n. int_le n t && int_le t n) numbers)
bounds Least numbers most rank t is ranked =
    let split = count_sum (λ n. int_lt n t) (λ n. int_le n t && int_le t n) (λ n. int_le n t) (λ n. below_or_same n t) numbers in
    (omega (arith, is, ranked.0), omega (arith, is, ranked.1, split))
bounds Greatest numbers most rank t is ranked =
    let split = count_sum (λ n. int_lt n t) (λ n. int_le n t && int_le t n) (λ n. int_le n t) (λ n. below_or_same n t) numbers in
    let all = count_sum (λ n. int_lt t n) (λ n. int_le n t) (λ n. true) (λ n. above_or_not n t) numbers ∙ count_all numbers in
    (omega (arith, is, ranked.1, all), omega (arith, is, ranked.0, split, all))

-- ---- numbers and rows in order

same_number : (x y : ℤ) → (int_le x y && int_le y x) ≡ true → x ≡ y
same_number x y same = grind (arith, ints, nat_tests)

beyond_through : (extreme : Extreme) (x t n : ℤ) → is_beyond extreme x t ≡ true → is_beyond extreme t n ≡ true → is_beyond extreme x n ≡ true
beyond_through Greatest x t n first second = grind (arith, ints, nat_tests)
beyond_through Least x t n first second = grind (arith, ints, nat_tests)

behind : (extreme : Extreme) (n t : ℤ) → is_beyond extreme n t ≡ false → (int_le n t && int_le t n) ≡ false → is_beyond extreme t n ≡ true
behind Greatest n t below other = grind (arith, ints, nat_tests)
behind Least n t below other = grind (arith, ints, nat_tests)

before_others : (extreme : Extreme) (x t n : ℤ) → is_beyond extreme x t ≡ true → is_beyond extreme n t ≡ false → is_beyond extreme x n ≡ true
before_others Greatest x t n beyond other = grind (arith, ints, nat_tests)
before_others Least x t n beyond other = grind (arith, ints, nat_tests)

not_both : (extreme : Extreme) (n t : ℤ) → is_beyond extreme n t ≡ true → (int_le n t && int_le t n) ≡ true → ⊥
not_both Greatest n t beyond same = grind (arith, ints, nat_tests)
not_both Least n t beyond same = grind (arith, ints, nat_tests)

ahead_by_number : (extreme : Extreme) (x y : TopRow) → is_beyond extreme x.number y.number ≡ true → is_ahead extreme x y ≡ true
ahead_by_number extreme x y beyond = ap (λ b. b || (int_eq x.number y.number && nat_lt x.row y.row)) beyond

or_second : (a b : Bool) → b ≡ true → (a || b) ≡ true
or_second true b is = refl
or_second false b is = is

ahead_by_row : (extreme : Extreme) (x y : TopRow) → x.number ≡ y.number → x.row < y.row → is_ahead extreme x y ≡ true
ahead_by_row extreme x y same lower =
    let rows : nat_lt x.row y.row ≡ true = grind (arith, nat_tests, lower) in
    or_second (is_beyond extreme x.number y.number) (int_eq x.number y.number && nat_lt x.row y.row) (ap₂ ◌&&◌ ((Decides-int_eq x.number y.number).1 same) rows)

-- ---- pairs of two lists, one behind the other

module _ {X : Type 0} (R : X → X → Type 0) where
  all_pairs_append : (xs ys : List X) → AllPairs R xs → AllPairs R ys → All (λ x. All (R x) ys) xs → AllPairs R (xs ++ ys)
  all_pairs_append [] ys first second across = second
  all_pairs_append (x ∷ xs) ys first second across =
      AllPairs-cons R x (xs ++ ys)
      (All-append (R x) xs ys (λ k d within. first zero (suc k) d (omega arith) (omega arith)) (All-head (λ x. All (R x) ys) x xs across))
      (all_pairs_append xs ys (λ i j d before within. first (suc i) (suc j) d (omega arith) (omega arith)) second (All-tail (λ x. All (R x) ys) x xs across))

  pub all_pairs_take : (k : ℕ) (xs : List X) → AllPairs R xs → AllPairs R (take k xs)
  all_pairs_take zero xs all = λ i j d before within. absurd (omega arith)
  all_pairs_take (suc k) [] all = all
  all_pairs_take (suc k) (x ∷ xs) all =
      AllPairs-cons R x (take k xs)
      (All-take (R x) k xs (λ i d within. all zero (suc i) d (omega arith) (omega arith)))
      (all_pairs_take k xs (λ i j d before within. all (suc i) (suc j) d (omega arith) (omega arith)))

-- ---- the rows at some places

some_is : (entry : Option ℤ) → IsSome entry → entry ≡ Some (unwrap_or entry (pos 0))
some_is None some = absurd (true≢false (sym some))
some_is (Some n) some = refl

abbrev row_at : List (Option ℤ) → ℕ → TopRow
row_at entries r = record { row = r; number = unwrap_or (get_or entries r None) (pos 0) }

places_of_rows : (entries : List (Option ℤ)) (places : List ℕ) → map (λ row. row.row) (rows_at entries places) ≡ places
places_of_rows entries [] = refl
places_of_rows entries (r ∷ places) = ap (λ rs. r ∷ rs) (places_of_rows entries places)

module _ (selection : List Bool) (entries : List (Option ℤ)) where
  -- a row stands among those at the places
  row_there : (row : TopRow) → IsRowOf selection entries row → (places : List ℕ) → Contains places row.row → Contains (rows_at entries places) row
  row_there row is places there =
      subst (Contains (rows_at entries places)) (ap (λ e. record { row = row.row; number = unwrap_or e (pos 0) }) is.1) (
        there.0,
        omega (arith, there.1, length-map places (row_at entries)),
        get_or-map (row_at entries) places there.0 row.row (row_at entries row.row) there.1 ∙ ap (row_at entries) there.2,
      )

  module _ (numbers : HaveNumbers selection entries) where
    rows_had : (places : List ℕ) → All (λ r. get_or selection r false ≡ true) places → All (IsRowOf selection entries) (rows_at entries places)
    rows_had places set =
        All-map (IsRowOf selection entries) (row_at entries) places
        (All-weaker (λ r. get_or selection r false ≡ true) (λ r. IsRowOf selection entries (row_at entries r)) (λ r set. (set, some_is (get_or entries r None) (numbers r set))) places set)

    -- where each row is listed
    pub all_first : (extreme : Extreme) (most : ℕ) → AreFirst extreme most selection entries (rows_at entries (set_positions selection))
    all_first extreme most = record {
      once = subst (AllPairs (λ x y. x ≢ y)) (sym (places_of_rows entries (set_positions selection))) (places_once selection);
      had = rows_had (set_positions selection) (places_set selection);
      enough = λ many. omega (arith, many, places_count selection, length-map (set_positions selection) (row_at entries));
      first = λ row is. inl (row_there row is (set_positions selection) (place_there selection row.row is.0));
    }

    module _ (t : ℤ) where
      -- a row whose number compares so with the bound, and such a row's bit
      compared_is : (op : Op) (r : ℕ) → get_or (compared op t selection entries) r false ≡ true
          → (get_or selection r false ≡ true) × (compares_by signed_order op (row_at entries r).number t ≡ true)
      compared_is op r set =
          let parts = and_parts (signed_selects op t (get_or entries r None)) (get_or selection r false) (sym (compared_at op t selection entries r) ∙ set) in
          (parts.1, subst (λ e. signed_selects op t e ≡ true) (some_is (get_or entries r None) (numbers r parts.1)) parts.0)

      compared_there : (op : Op) (row : TopRow) → IsRowOf selection entries row → compares_by signed_order op row.number t ≡ true
          → get_or (compared op t selection entries) row.row false ≡ true
      compared_there op row is so =
          compared_at op t selection entries row.row ∙ ap₂ ◌&&◌ (ap (signed_selects op t) is.1 ∙ so) is.0

      module _ (extreme : Extreme) (most : ℕ) where
        abbrev beyond : List Bool
        beyond = compared (op_beyond extreme) t selection entries

        abbrev ties : List Bool
        ties = compared Eq t selection entries

        abbrev tied : List ℕ
        tied = take (most - length (set_positions beyond)) (set_positions ties)

        abbrev pub bound_places : List ℕ
        bound_places = set_positions beyond ++ tied

        -- where enough rows are beyond the bound, the first of them are the first of all
        pub narrowed : (listed : List TopRow) → AreFirst extreme most beyond entries listed → most ≤ length listed → AreFirst extreme most selection entries listed
        narrowed listed are enough = record {
          once = are.once;
          had = All-weaker (IsRowOf beyond entries) (IsRowOf selection entries) (λ row is. ((compared_is (op_beyond extreme) row.row is.0).0, is.1)) listed are.had;
          enough = λ many. enough;
          first = λ row is. elim (cases_Bool (is_beyond extreme row.number t)) [
            | inl above ↦ are.first row (compared_there (op_beyond extreme) row is above, is.1)
            | inr below ↦
                inr (
                  enough,
                  All-weaker (IsRowOf beyond entries) (λ x. IsTrue (is_ahead extreme x row))
                      (λ x had. ahead_by_number extreme x row (before_others extreme x.number t row.number
                      (subst (λ n. is_beyond extreme n t ≡ true) (ap (λ e. unwrap_or e (pos 0)) had.1) (compared_is (op_beyond extreme) x.row had.0).1) below)) listed are.had,
                )
          ];
        }

        tied_set : All (λ r. get_or ties r false ≡ true) tied
        tied_set = All-take (λ r. get_or ties r false ≡ true) (most - length (set_positions beyond)) (set_positions ties) (places_set ties)

        once : AllPairs (λ x y. x ≢ y) bound_places
        once =
            all_pairs_append (λ x y. x ≢ y) (set_positions beyond) tied (places_once beyond)
            (all_pairs_take (λ x y. x ≢ y) (most - length (set_positions beyond)) (set_positions ties) (places_once ties))
            (All-weaker (λ r. get_or beyond r false ≡ true) (λ r. All (λ q. r ≢ q) tied)
            (λ r set. All-weaker (λ q. get_or ties q false ≡ true) (λ q. r ≢ q)
            (λ q tie same. not_both extreme (row_at entries r).number t (compared_is (op_beyond extreme) r set).1
            (compared_is Eq r (subst (λ q. get_or ties q false ≡ true) (sym same) tie)).1)
            tied tied_set) (set_positions beyond) (places_set beyond))

        found_set : All (λ r. get_or selection r false ≡ true) bound_places
        found_set =
            All-append (λ r. get_or selection r false ≡ true) (set_positions beyond) tied
            (All-weaker (λ r. get_or beyond r false ≡ true) (λ r. get_or selection r false ≡ true) (λ r set. (compared_is (op_beyond extreme) r set).0) (set_positions beyond) (places_set beyond))
            (All-weaker (λ r. get_or ties r false ≡ true) (λ r. get_or selection r false ≡ true) (λ r set. (compared_is Eq r set).0) tied tied_set)

        module _ (few : count_by (λ b. b) beyond ≤ most) (many : most ≤ count_by (λ b. b) beyond + count_by (λ b. b) ties) where
          long : length (rows_at entries bound_places) ≡ most
          long =
              length-map bound_places (row_at entries) ∙ length-append (set_positions beyond) tied
              ∙ ap (λ n. length (set_positions beyond) + n) (length-take-le (most - length (set_positions beyond)) (set_positions ties) (omega (arith, many, places_count beyond, places_count ties)))
              ∙ omega (arith, few, places_count beyond)

          -- a row is past the listed ones if it comes after the bound, or has its number at a later place
          past : (row : TopRow) → ((x : ℤ) → is_beyond extreme x t ≡ true → is_beyond extreme x row.number ≡ true)
              → ((r : ℕ) → (row_at entries r).number ≡ t → Contains tied r → is_ahead extreme (row_at entries r) row ≡ true) → IsAfterLongList extreme most (rows_at entries bound_places) row
          past row after tie =
              let P : TopRow → Type 0 = λ x. IsTrue (is_ahead extreme x row) in (
                omega (arith, long),
                All-map P (row_at entries) bound_places
                    (All-append (λ r. P (row_at entries r)) (set_positions beyond) tied
                    (All-weaker (λ r. get_or beyond r false ≡ true) (λ r. P (row_at entries r))
                    (λ r set. ahead_by_number extreme (row_at entries r) row (after (row_at entries r).number (compared_is (op_beyond extreme) r set).1)) (set_positions beyond) (places_set beyond))
                    (λ k d within. tie (get_or tied k d) (same_number (row_at entries (get_or tied k d)).number t (compared_is Eq (get_or tied k d) (tied_set k d within)).1) (All-contains_itself tied k d within))),
              )

          first : (row : TopRow) → IsRowOf selection entries row → Contains (rows_at entries bound_places) row ⊎ IsAfterLongList extreme most (rows_at entries bound_places) row
          first row is = elim (cases_Bool (is_beyond extreme row.number t)) [
            | inl above ↦
                inl (row_there row is bound_places (Contains-append_left (set_positions beyond) tied row.row (place_there beyond row.row (compared_there (op_beyond extreme) row is above))))
            | inr below ↦ elim (cases_Bool (int_le row.number t && int_le t row.number)) [
              | inr other ↦
                  let after = behind extreme row.number t below other in
                  inr (past row (λ x above. beyond_through extreme x t row.number above after)
                  (λ r same there. ahead_by_number extreme (row_at entries r) row (subst (λ x. is_beyond extreme x row.number ≡ true) (sym same) after)))
              | inl tie ↦
                  let is_bound = same_number row.number t tie in
                  elim (among_or_past ties (most - length (set_positions beyond)) row.row (compared_there Eq row is tie)) [
                    | inl there ↦ inl (row_there row is bound_places (Contains-append_right (set_positions beyond) tied row.row there))
                    | inr lower ↦
                        inr (past row (λ x above. subst (λ n. is_beyond extreme x n ≡ true) (sym is_bound) above)
                        (λ r same there. ahead_by_row extreme (row_at entries r) row (same ∙ sym is_bound) (All-contains (λ x. x < row.row) tied r lower there)))
                  ]
            ]
          ]

          bound_first : AreFirst extreme most selection entries (rows_at entries bound_places)
          bound_first = record {
            once = subst (AllPairs (λ x y. x ≢ y)) (sym (places_of_rows entries bound_places)) once;
            had = rows_had bound_places found_set;
            enough = λ many. omega (arith, long);
            first = first;
          }

        -- what the two passes list
        listed_is : (none some all : List TopRow) → none ≡ [] → some ≡ none ++ rows_at entries (take (most - length none) (set_positions beyond))
            → all ≡ some ++ rows_at entries (take (most - length some) (set_positions ties)) → count_by (λ b. b) beyond ≤ most → all ≡ rows_at entries bound_places
        listed_is none some all none_is some_is all_is few =
            let first : some ≡ rows_at entries (set_positions beyond) =
            some_is ∙ ap (λ l. l ++ rows_at entries (take (most - length l) (set_positions beyond))) none_is
            ∙ ap (rows_at entries) (take_all (most - 0) (set_positions beyond) (omega (arith, few, places_count beyond))) in
            all_is ∙ ap (λ l. l ++ rows_at entries (take (most - length l) (set_positions ties))) first
            ∙ ap (λ n. rows_at entries (set_positions beyond) ++ rows_at entries (take (most - n) (set_positions ties))) (length-map (set_positions beyond) (row_at entries))
            ∙ sym (map-append (row_at entries) (set_positions beyond) tied)

        pub bound_listed : (none some all : List TopRow) → none ≡ [] → some ≡ none ++ rows_at entries (take (most - length none) (set_positions beyond))
            → all ≡ some ++ rows_at entries (take (most - length some) (set_positions ties)) → count_by (λ b. b) beyond ≤ most
            → most ≤ count_by (λ b. b) beyond + count_by (λ b. b) ties → AreFirst extreme most selection entries all
        bound_listed none some all none_is some_is all_is few many =
            subst (AreFirst extreme most selection entries) (sym (listed_is none some all none_is some_is all_is few)) (bound_first few many)
