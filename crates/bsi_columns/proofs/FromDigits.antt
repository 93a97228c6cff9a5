-- The entries that digits stand for have these digits.
use Rattle.std.proofs.Common.{◌≡◌, ℕ, suc, ◌+◌, ◌*◌, ◌%◌, ◌<◌, ◌≤◌, Bool, true, false, List, [], ◌∷◌, length, get_or, map, refl, sym, ap, ◌∙◌, subst, arith}
use Rattle.std.specs.Prelude.{Some, None, is_some, if◌then◌else◌}
use Rattle.std.specs.List.{range_with_len}
use Rattle.std.proofs.Math.Nat.{mul-le-mul_left, zero-div, zero-mod}
use Rattle.std.proofs.lemmas.List.{length-map, get_or-map}
use Rattle.std.proofs.lemmas.List.FromFn.{fill_by_all, get_or-map-range_with_len, length-map-range_with_len}
use Rattle.bsi_digits.specs.Digits.{product, digit_of, components, weight, weighted_sum}
use Rattle.bsi_digits.proofs.CallerLemmas.{get_or-digits_of, same_digits, weighted_sum-cons}
use Rattle.bsi_columns.specs.Comparisons.{number_or_zero}
use Rattle.bsi_columns.specs.Decomposed.{digits_at, weighed_entry, entries_of, AreDigitLists, Decomposes}

maps_twice : {X Y : Type 0} (f : ℕ → X) (g : X → Y) (xs : List ℕ) → map g (map f xs) ≡ map (λ x. g (f x)) xs
maps_twice f g [] = refl
maps_twice f g (x ∷ xs) = ap (λ ys. g (f x) ∷ ys) (maps_twice f g xs)

-- digits below their bases weigh less than the size
weighed_below : (bs ds : List ℕ) → length ds ≡ length bs → ((i : ℕ) → i < length bs → get_or ds i 0 < get_or bs i 0) → weighted_sum bs ds (components bs) < product bs
weighed_below [] [] same below = omega arith
weighed_below [] (d ∷ ds) same below = absurd (omega arith)
weighed_below (b ∷ bs) [] same below = absurd (omega arith)
weighed_below (b ∷ bs) (d ∷ ds) same below =
    let rest = weighted_sum bs ds (components bs) in
    let small : d < b = below 0 (omega arith) in
    let more : rest < product bs = weighed_below bs ds (omega arith) (λ i h. below (suc i) (omega arith)) in
    let most : b * (rest + 1) ≤ b * product bs = mul-le-mul_left b (omega arith) in
    omega (arith, weighted_sum-cons b bs d ds, most)

module _ (bs : List ℕ) (not_null : List Bool) (ds : List (List ℕ)) (are : AreDigitLists bs not_null ds) where
  row_digit : (i r : ℕ) → i < length bs → get_or (digits_at ds r) i 0 ≡ get_or (get_or ds i []) r 0
  row_digit i r within = get_or-map (λ (d : List ℕ). get_or d r 0) ds i [] 0 (omega (arith, are.digits.count))

  row_long : (r : ℕ) → length (digits_at ds r) ≡ length bs
  row_long r = length-map ds (λ (d : List ℕ). get_or d r 0) ∙ are.digits.count

  row_below : (r : ℕ) → r < length not_null → (i : ℕ) → i < length bs → get_or (digits_at ds r) i 0 < get_or bs i 0
  row_below r within i inside = omega (arith, row_digit i r inside, are.digits.below i r inside)

  -- each digit of a row is that of the number that they weigh
  digit_is : (i r : ℕ) → i < length bs → r < length not_null → get_or (get_or ds i []) r 0 ≡ digit_of bs (weighted_sum bs (digits_at ds r) (components bs)) i
  digit_is i r inside within =
      let v = weighted_sum bs (digits_at ds r) (components bs) in
      sym (row_digit i r inside)
      ∙ ap (λ xs. get_or xs i 0) (same_digits bs (digits_at ds r) v (row_long r) (row_below r within) refl)
      ∙ get_or-digits_of bs v i inside

  zero_digit : (i : ℕ) → 0 ≡ digit_of bs 0 i
  zero_digit i = sym (ap (λ n. n % get_or bs i 0) (zero-div (weight bs i)) ∙ zero-mod (get_or bs i 0))

  digit_by : (i r : ℕ) → i < length bs → r < length not_null → (b : Bool) → get_or not_null r false ≡ b
      → get_or (get_or ds i []) r 0 ≡ digit_of bs (number_or_zero (if b then Some (weighted_sum bs (digits_at ds r) (components bs)) else None)) i
  digit_by i r inside within true is = digit_is i r inside within
  digit_by i r inside within false is = are.clear i r inside within is ∙ zero_digit i

  below_by : (r : ℕ) → r < length not_null → (b : Bool) → number_or_zero (if b then Some (weighted_sum bs (digits_at ds r) (components bs)) else None) < product bs
  below_by r within true = weighed_below bs (digits_at ds r) (row_long r) (row_below r within)
  below_by r within false = omega (arith, weighed_below bs (digits_at ds r) (row_long r) (row_below r within))

  there_by : (r : ℕ) (b : Bool) → b ≡ is_some (if b then Some (weighted_sum bs (digits_at ds r) (components bs)) else None)
  there_by r true = refl
  there_by r false = refl

  pub decomposed_from : Decomposes bs not_null ds (entries_of bs not_null ds)
  unfolding entries_of
  decomposed_from =
      let n = length not_null in
      let entry = weighed_entry bs not_null ds in
      record {
        count = are.digits.count;
        not_null_is =
            fill_by_all (λ r. is_some (entry r)) not_null n false refl (λ r within. there_by r (get_or not_null r false))
            ∙ sym (maps_twice entry is_some (range_with_len 0 n));
        digits_are = λ i inside.
            fill_by_all (λ r. digit_of bs (number_or_zero (entry r)) i) (get_or ds i []) n 0 (are.digits.rows_are i inside)
            (λ r within. digit_by i r inside within (get_or not_null r false) refl)
            ∙ sym (maps_twice entry (λ e. digit_of bs (number_or_zero e) i) (range_with_len 0 n));
        below = λ k d within.
            let inside : k < n = omega (arith, within, length-map-range_with_len entry 0 n) in
            subst (λ e. number_or_zero e < product bs) (sym (get_or-map-range_with_len entry 0 n k k d inside (omega arith))) (below_by k inside (get_or not_null k false));
      }
