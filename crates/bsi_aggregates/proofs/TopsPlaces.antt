-- The rows at the places of set bits.
use Rattle.std.proofs.Common.{◌≡◌, ◌≢◌, ◌+◌, ◌<◌, ◌≤◌, ◌++◌, ◌∷◌, [], ℕ, zero, suc, ℤ, pos, Bool, true, false, true≢false, cond, List, Option, Some, None, All, Contains, length, map, map-id, filter, take, get_or, inl, inr, refl, ap, sym, subst, zero-add, ◌∙◌, arith}
use Rattle.std.specs.Prelude.{◌⊎◌, ◌&&◌, AllPairs, IfSome, IsSome, is_some, unwrap_or, count_by}
use Rattle.std.specs.List.{range_with_len}
use Rattle.std.specs.Simd.Lanes.{zip2}
use Rattle.std.proofs.lemmas.Bool.{and_parts, and_right, cases_eq, cases_lt}
use Rattle.std.proofs.lemmas.List.{get_or_past, length-map, map-append, take_more}
use Rattle.std.proofs.lemmas.List.Elements.{filter_passes, All-cons, All-nil, All-weaker, Contains-append_right}
use Rattle.std.proofs.lemmas.List.Kept.{AllPairs-cons, AllPairs-filter}
use Rattle.std.proofs.lemmas.List.Sums.{sum_by-cons}
use Rattle.std.proofs.lemmas.Simd.{length-zip2}
use Rattle.bsi_bits.specs.BitList.{set_positions}
use Rattle.bsi_digits.specs.Orders.{compares_by, values_at}
use Rattle.bsi_digits.specs.WholeNumbers.{signed_order, signed_selects}
use Rattle.bsi_digits.specs.declared.op.Op.{Op}
use Rattle.bsi_table.proofs.Selections.{length-places, set_positions-map}
use Rattle.bsi_aggregates.specs.Tops.{compared, rows_at, HaveNumbers}

-- a set bit is one of the bits
pub set_within : (bits : List Bool) (r : ℕ) → get_or bits r false ≡ true → r < length bits
set_within bits r set = elim (cases_lt r (length bits)) [
  | inl within ↦ within
  | inr past ↦ absurd (true≢false (sym set ∙ get_or_past bits r false past))
]

-- the bit at each place is set
pub places_set : (bits : List Bool) → All (λ r. get_or bits r false ≡ true) (set_positions bits)
places_set bits = filter_passes (λ r. get_or bits r false) (range_with_len 0 (length bits))

-- no row stands past the entries
pub none_past : (entries : List (Option ℤ)) (r : ℕ) (P : ℤ → Type 0) → length entries ≤ r → IfSome (get_or entries r None) P
none_past entries r P past = subst (λ entry. IfSome entry P) (sym (get_or_past entries r None past)) tt

number_is : (entry : Option ℤ) (n : ℤ) → IsSome entry → IfSome entry (λ number. n ≡ number) → n ≡ unwrap_or entry (pos 0)
number_is None n some is = absurd (true≢false (sym some))
number_is (Some number) n some is = is

-- one more row
pub row_more : (entries : List (Option ℤ)) (positions : List ℕ) (j r : ℕ) (n : ℤ) → j < length positions → r ≡ get_or positions j r
    → IsSome (get_or entries r None) → IfSome (get_or entries r None) (λ number. n ≡ number)
    → rows_at entries (take j positions) ++ (record { row = r; number = n }) ∷ [] ≡ rows_at entries (take (j + 1) positions)
row_more entries positions j r n within is some number =
    ap (λ m. rows_at entries (take j positions) ++ (record { row = r; number = m }) ∷ []) (number_is (get_or entries r None) n some number)
    ∙ sym (map-append (λ i. record { row = i; number = unwrap_or (get_or entries i None) (pos 0) }) (take j positions) (r ∷ []))
    ∙ ap (λ i. rows_at entries (take j positions ++ i ∷ [])) is
    ∙ ap (rows_at entries) (sym (take_more positions j r within))

-- a bit that is clear does not count
count_clear : (bits : List Bool) → count_by (λ b. b) (false ∷ bits) ≡ count_by (λ b. b) bits
count_clear bits = sum_by-cons (λ b. cond b 1 0) false bits ∙ zero-add (count_by (λ b. b) bits)

-- the rows of a selection that compare so with a bound
module _ (op : Op) (bound : ℤ) where
  pub compared_at : (selection : List Bool) (entries : List (Option ℤ)) (r : ℕ)
      → get_or (compared op bound selection entries) r false ≡ (signed_selects op bound (get_or entries r None) && get_or selection r false)
  compared_at [] [] r = refl
  compared_at (f ∷ selection) [] r = refl
  compared_at [] (e ∷ entries) r = sym (and_right (signed_selects op bound (get_or (e ∷ entries) r None)) false refl)
  compared_at (f ∷ selection) (e ∷ entries) zero = refl
  compared_at (f ∷ selection) (e ∷ entries) (suc r) = compared_at selection entries r

  pub compared_numbers : (selection : List Bool) (entries : List (Option ℤ)) → HaveNumbers selection entries → HaveNumbers (compared op bound selection entries) entries
  compared_numbers selection entries numbers r set =
      numbers r (and_parts (signed_selects op bound (get_or entries r None)) (get_or selection r false) (sym (compared_at selection entries r) ∙ set)).1

  pub length-compared : (selection : List Bool) (entries : List (Option ℤ)) → length entries ≡ length selection → length (compared op bound selection entries) ≡ length entries
  length-compared selection entries same =
      let long = length-map entries (signed_selects op bound) in
      length-zip2 ◌&&◌ (map (signed_selects op bound) entries) selection (long ∙ same) ∙ long

  -- as many as numbers do
  pub compared_count : (selection : List Bool) (entries : List (Option ℤ))
      → count_by (λ b. b) (compared op bound selection entries) ≡ count_by (λ n. compares_by signed_order op n bound) (values_at selection entries)
  compared_count [] [] = refl
  compared_count [] (e ∷ entries) = refl
  compared_count (f ∷ selection) [] = refl
  compared_count (f ∷ selection) (None ∷ entries) = by f (compared_count selection entries)
    where
      by : (f : Bool) → count_by (λ b. b) (compared op bound selection entries) ≡ count_by (λ n. compares_by signed_order op n bound) (values_at selection entries)
          → count_by (λ b. b) (false ∷ compared op bound selection entries) ≡ count_by (λ n. compares_by signed_order op n bound) (values_at (f ∷ selection) (None ∷ entries))
      by true rest = count_clear (compared op bound selection entries) ∙ rest
      by false rest = count_clear (compared op bound selection entries) ∙ rest
  compared_count (false ∷ selection) (Some n ∷ entries) =
      ap (λ b. count_by (λ b. b) (b ∷ compared op bound selection entries)) (and_right (compares_by signed_order op n bound) false refl)
      ∙ count_clear (compared op bound selection entries) ∙ compared_count selection entries
  compared_count (true ∷ selection) (Some n ∷ entries) =
      ap (λ b. count_by (λ b. b) (b ∷ compared op bound selection entries)) (and_true (compares_by signed_order op n bound))
      ∙ sum_by-cons (λ b. cond b 1 0) (compares_by signed_order op n bound) (compared op bound selection entries)
      ∙ ap (λ k. cond (compares_by signed_order op n bound) 1 0 + k) (compared_count selection entries)
      ∙ sym (sum_by-cons (λ n. cond (compares_by signed_order op n bound) 1 0) n (values_at selection entries))
    where
      and_true : (a : Bool) → (a && true) ≡ a
      and_true true = refl
      and_true false = refl

-- as many numbers as rows, where no row is null
pub numbers_count : (selection : List Bool) (entries : List (Option ℤ)) → length entries ≡ length selection → HaveNumbers selection entries → length (values_at selection entries) ≡ count_by (λ b. b) selection
numbers_count [] [] same numbers = refl
numbers_count [] (e ∷ entries) same numbers = absurd (omega arith)
numbers_count (f ∷ selection) [] same numbers = absurd (omega arith)
numbers_count (false ∷ selection) (e ∷ entries) same numbers =
    numbers_count selection entries (omega arith) (λ r. numbers (suc r)) ∙ sym (count_clear selection)
numbers_count (true ∷ selection) (None ∷ entries) same numbers = absurd (true≢false (sym (numbers 0 refl)))
numbers_count (true ∷ selection) (Some n ∷ entries) same numbers =
    ap suc (numbers_count selection entries (omega arith) (λ r. numbers (suc r))) ∙ omega (arith, sum_by-cons (λ b. cond b 1 0) true selection)

-- as many found rows with a number as numbers
pub numbered_count : (selection : List Bool) (entries : List (Option ℤ)) → count_by (λ b. b) (zip2 ◌&&◌ selection (map is_some entries)) ≡ length (values_at selection entries)
numbered_count [] [] = refl
numbered_count [] (e ∷ entries) = refl
numbered_count (f ∷ selection) [] = refl
numbered_count (false ∷ selection) (e ∷ entries) = count_clear (zip2 ◌&&◌ selection (map is_some entries)) ∙ numbered_count selection entries
numbered_count (true ∷ selection) (None ∷ entries) = count_clear (zip2 ◌&&◌ selection (map is_some entries)) ∙ numbered_count selection entries
numbered_count (true ∷ selection) (Some n ∷ entries) =
    let others = zip2 ◌&&◌ selection (map is_some entries) in
    let one_more : count_by (λ b. b) (true ∷ others) ≡ suc (count_by (λ b. b) others) = omega (arith, sum_by-cons (λ b. cond b 1 0) true others) in
    one_more ∙ ap suc (numbered_count selection entries)

-- as many places as bits that are set
pub places_count : (bits : List Bool) → length (set_positions bits) ≡ count_by (λ b. b) bits
places_count bits =
    ap (λ bits. length (set_positions bits)) (sym (map-id bits)) ∙ ap length (set_positions-map false (λ b. b) bits)
    ∙ length-places false (λ b. b) bits ∙ ap (count_by (λ b. b)) (map-id bits)

-- a set bit's place is among them
pub place_there : (bits : List Bool) (r : ℕ) → get_or bits r false ≡ true → Contains (set_positions bits) r
place_there bits r set = among 0 (length bits) r (omega arith) (omega (arith, set_within bits r set)) set
  where
    among : (a n r : ℕ) → a ≤ r → r < a + n → get_or bits r false ≡ true → Contains (filter (λ i. get_or bits i false) (range_with_len a n)) r
    among a zero r from below set = absurd (omega arith)
    among a (suc n) r from below set = elim (cases_eq r a) [
      | inl same ↦
          subst (λ b. Contains (cond b (a ∷ filter (λ i. get_or bits i false) (range_with_len (a + 1) n)) (filter (λ i. get_or bits i false) (range_with_len (a + 1) n))) r)
          (sym (ap (λ i. get_or bits i false) (sym same) ∙ set)) (0, omega arith, sym same)
      | inr other ↦ by (get_or bits a false) (among (a + 1) n r (omega arith) (omega arith) set)
    ]
      where
        by : (b : Bool) → Contains (filter (λ i. get_or bits i false) (range_with_len (a + 1) n)) r
            → Contains (cond b (a ∷ filter (λ i. get_or bits i false) (range_with_len (a + 1) n)) (filter (λ i. get_or bits i false) (range_with_len (a + 1) n))) r
        by true later = Contains-append_right (a ∷ []) (filter (λ i. get_or bits i false) (range_with_len (a + 1) n)) r later
        by false later = later

-- of the first k places, a set bit's place is one, or comes after each
pub among_or_past : (bits : List Bool) (k r : ℕ) → get_or bits r false ≡ true
    → Contains (take k (set_positions bits)) r ⊎ All (λ x. x < r) (take k (set_positions bits))
among_or_past bits k r set = from 0 (length bits) k (omega arith) (omega (arith, set_within bits r set))
  where
    by : (a : ℕ) (rest : List ℕ) (b : Bool) → a ≤ r → get_or bits a false ≡ b
        → (a + 1 ≤ r → (k : ℕ) → Contains (take k rest) r ⊎ All (λ x. x < r) (take k rest))
        → (k : ℕ) → Contains (take k (cond b (a ∷ rest) rest)) r ⊎ All (λ x. x < r) (take k (cond b (a ∷ rest) rest))
    by a rest false at clear later k = elim (cases_eq r a) [
      | inl same ↦ absurd (true≢false (sym set ∙ ap (λ i. get_or bits i false) same ∙ clear))
      | inr other ↦ later (omega arith) k
    ]
    by a rest true at there later zero = inr (All-nil (λ x. x < r))
    by a rest true at there later (suc k) = elim (cases_eq r a) [
      | inl same ↦ inl (0, omega arith, sym same)
      | inr other ↦ elim (later (omega arith) k) [
        | inl among ↦ inl (Contains-append_right (a ∷ []) (take k rest) r among)
        | inr past ↦ inr (All-cons (λ x. x < r) a (take k rest) (omega arith) past)
      ]
    ]

    from : (a n k : ℕ) → a ≤ r → r < a + n
        → Contains (take k (filter (λ i. get_or bits i false) (range_with_len a n))) r
        ⊎ All (λ x. x < r) (take k (filter (λ i. get_or bits i false) (range_with_len a n)))
    from a zero k at below = absurd (omega arith)
    from a (suc n) k at below =
        by a (filter (λ i. get_or bits i false) (range_with_len (a + 1) n)) (get_or bits a false) at refl (λ later k. from (a + 1) n k later (omega arith)) k

-- no place is there twice
pub places_once : (bits : List Bool) → AllPairs (λ x y. x ≢ y) (set_positions bits)
places_once bits =
    AllPairs-filter (λ x y. x ≢ y) (λ i. get_or bits i false) (range_with_len 0 (length bits)) (apart 0 (length bits))
  where
    from : (a n : ℕ) → All (λ x. a ≤ x) (range_with_len a n)
    from a zero = All-nil (λ x. a ≤ x)
    from a (suc n) = All-cons (λ x. a ≤ x) a (range_with_len (a + 1) n) (omega arith) (All-weaker (λ x. a + 1 ≤ x) (λ x. a ≤ x) (λ x more. omega arith) (range_with_len (a + 1) n) (from (a + 1) n))

    apart : (a n : ℕ) → AllPairs (λ x y. x ≢ y) (range_with_len a n)
    apart a zero = λ i j d before within. absurd (omega arith)
    apart a (suc n) =
        AllPairs-cons (λ x y. x ≢ y) a (range_with_len (a + 1) n)
        (All-weaker (λ x. a + 1 ≤ x) (λ x. a ≢ x) (λ x more same. absurd (omega arith)) (range_with_len (a + 1) n) (from (a + 1) n))
        (apart (a + 1) n)
