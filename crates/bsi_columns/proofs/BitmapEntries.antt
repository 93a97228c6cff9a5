-- Entries are determined by their bitmaps.
use Rattle.std.proofs.Common.{◌≡◌, ℕ, ◌+◌, ◌/◌, ◌^◌, ◌<◌, Bool, false, List, [], length, get_or, map, drop, refl, sym, ap, ◌∙◌, true≢false, arith}
use Rattle.std.specs.Prelude.{All, Option, Some, None, is_some}
use Rattle.std.specs.List.{flat_map, range_with_len}
use Rattle.std.proofs.Math.Nat.{mod-eq_of_lt}
use Rattle.std.proofs.lemmas.Nat.{mod_below}
use Rattle.std.proofs.lemmas.List.{get_or-map, get_or_default, length-map, same_lists}
use Rattle.std.proofs.lemmas.List.Elements.{All-get_or}
use Rattle.std.proofs.lemmas.List.FromFn.{fill_by_all, get_or-map-range_with_len, length-map-range_with_len}
use Rattle.bsi_components.specs.PlaceNumbers.{place_count}
use Rattle.bsi_components.proofs.PlaceCounts.{count_enough}
use Rattle.bsi_components.proofs.PlaceNumbers.{same_places}
use Rattle.bsi_digits.specs.Digits.{components, digit_of, digits_of, product, weight, weighted_sum, IsBaseList}
use Rattle.bsi_digits.proofs.CallerLemmas.{weighted_sum-digits_of}
use Rattle.bsi_digits.specs.Comparisons.{number_or_zero}
use Rattle.bsi_kernels.specs.Places.{has_place}
use Rattle.bsi_columns.specs.StoredBitmaps.{bitmaps_by, digit_places, places_under, slice_places}
use Rattle.bsi_columns.proofs.ColumnPlaces.{length-slice_places, rows_of_test}
use Rattle.bsi_columns.proofs.FromBitmaps.{place_within, tests_long}
use Rattle.bsi_columns.proofs.PieceLists.{piece_at}

-- the tests tell the numbers below the size apart
pub record Distinguish (tests : List (ℕ → Bool)) (size : ℕ) : Type 0 where
  pub each : (u v : ℕ) → u < size → v < size → ((j : ℕ) (d : ℕ → Bool) → j < length tests → get_or tests j d u ≡ get_or tests j d v) → u ≡ v

pub slices_distinguish : (w : ℕ) → Distinguish (slice_places w) (2 ^ w)
slices_distinguish w = record {
  each = λ u v small_u small_v same.
      let agree : (k : ℕ) → k < w → has_place k u ≡ has_place k v = λ k within.
      let test : (n : ℕ) → get_or (slice_places w) k (has_place 0) n ≡ has_place k n = λ n. ap (λ t. t n) (get_or-map-range_with_len has_place 0 w k k (has_place 0) within (omega arith)) in
      sym (test u) ∙ same k (has_place 0) (omega (arith, within, length-slice_places w)) ∙ test v in
      sym (mod-eq_of_lt small_u) ∙ same_places u v w agree ∙ mod-eq_of_lt small_v;
}

module _ (bs : List ℕ) (valid : IsBaseList bs) (u v : ℕ)
    (same : (j : ℕ) (d : ℕ → Bool) → j < length (places_under bs) → get_or (places_under bs) j d u ≡ get_or (places_under bs) j d v) where
  digit_small : (n i : ℕ) → i < length bs → digit_of bs n i < 2 ^ place_count (get_or bs i 0)
  digit_small n i within =
      let base = valid.each i within in
      omega (arith, mod_below (n / weight bs i) (get_or bs i 0) (omega (arith, base)), count_enough (get_or bs i 0) base)

  digit_same : (i : ℕ) → i < length bs → digit_of bs u i ≡ digit_of bs v i
  digit_same i within =
      let count = place_count (get_or bs i 0) in
      let d = has_place 0 in
      let agree : (k : ℕ) → k < count → has_place k (digit_of bs u i) ≡ has_place k (digit_of bs v i) = λ k few.
      let at = length (flat_map (digit_places bs) (range_with_len 0 i)) + k in
      let test : (n : ℕ) → get_or (places_under bs) at d n ≡ has_place k (digit_of bs n i) = λ n.
      ap (λ t. t n) (piece_at (digit_places bs) (length bs) i k d within (omega (arith, few, tests_long bs i))
      ∙ get_or-map-range_with_len (λ (k : ℕ). λ (n : ℕ). has_place k (digit_of bs n i)) 0 count k k d few (omega arith)) in
      sym (test u) ∙ same at d (place_within bs i k within few) ∙ test v in
      sym (mod-eq_of_lt (digit_small u i within)) ∙ same_places (digit_of bs u i) (digit_of bs v i) count agree ∙ mod-eq_of_lt (digit_small v i within)

  digits_same : digits_of bs u ≡ digits_of bs v
  digits_same =
      fill_by_all (digit_of bs v) (digits_of bs u) (length bs) 0 (length-map-range_with_len (digit_of bs u) 0 (length bs))
      (λ i within. get_or-map-range_with_len (digit_of bs u) 0 (length bs) i i 0 within (omega arith) ∙ digit_same i within)

pub digits_distinguish : (bs : List ℕ) → IsBaseList bs → Distinguish (places_under bs) (product bs)
digits_distinguish bs valid = record {
  each = λ u v small_u small_v same.
      sym (weighted_sum-digits_of bs u small_u) ∙ ap (λ ds. weighted_sum bs ds (components bs)) (digits_same bs valid u v same) ∙ weighted_sum-digits_of bs v small_v;
}

same_entry : (x y : Option ℕ) → is_some x ≡ is_some y → number_or_zero x ≡ number_or_zero y → x ≡ y
same_entry None None marks numbers = refl
same_entry None (Some m) marks numbers = absurd (true≢false (sym marks))
same_entry (Some n) None marks numbers = absurd (true≢false marks)
same_entry (Some n) (Some m) marks numbers = ap Some numbers

-- entries below the size that have the same bitmaps are the same
module _ (tests : List (ℕ → Bool)) (size : ℕ) (distinct : Distinguish tests size) (xs ys : List (Option ℕ)) (same : bitmaps_by tests xs ≡ bitmaps_by tests ys) where
  marks_same : map is_some xs ≡ map is_some ys
  marks_same = ap (λ rows. get_or rows 0 []) same

  long_same : length xs ≡ length ys
  long_same = sym (length-map xs is_some) ∙ ap length marks_same ∙ length-map ys is_some

  row_same : (r j : ℕ) (d : ℕ → Bool) → r < length xs → j < length tests → get_or tests j d (number_or_zero (get_or xs r None)) ≡ get_or tests j d (number_or_zero (get_or ys r None))
  row_same r j d within there =
      sym (get_or-map (λ e. get_or tests j d (number_or_zero e)) xs r None false within)
      ∙ ap (λ bits. get_or bits r false) (sym (get_or-map (rows_of_test xs) tests j d [] there) ∙ ap (λ rows. get_or (drop 1 rows) j []) same ∙ get_or-map (rows_of_test ys) tests j d [] there)
      ∙ get_or-map (λ e. get_or tests j d (number_or_zero e)) ys r None false (omega (arith, within, long_same))

  pub same_stored : All (λ e. number_or_zero e < size) xs → All (λ e. number_or_zero e < size) ys → xs ≡ ys
  same_stored below_xs below_ys =
      same_lists xs ys long_same (λ r d within.
      let inside : r < length ys = omega (arith, within, long_same) in
      let marks : is_some (get_or xs r None) ≡ is_some (get_or ys r None) =
      sym (get_or-map is_some xs r None false within) ∙ ap (λ bits. get_or bits r false) marks_same ∙ get_or-map is_some ys r None false inside in
      let numbers : number_or_zero (get_or xs r None) ≡ number_or_zero (get_or ys r None) =
      distinct.each (number_or_zero (get_or xs r None)) (number_or_zero (get_or ys r None))
      (All-get_or (λ e. number_or_zero e < size) xs r None within below_xs) (All-get_or (λ e. number_or_zero e < size) ys r None inside below_ys)
      (λ j d there. row_same r j d within there) in
      get_or_default xs r d None within ∙ same_entry (get_or xs r None) (get_or ys r None) marks numbers ∙ sym (get_or_default ys r d None inside))
