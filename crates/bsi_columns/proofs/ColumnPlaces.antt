-- The bitmaps of a column, one place after another.
use Rattle.std.proofs.Common.{◌≡◌, ℕ, ◌+◌, ◌<◌, Bool, List, [], ◌∷◌, ◌++◌, length, get_or, map, refl, sym, ap, ◌∙◌, arith}
use Rattle.std.specs.Prelude.{Option, is_some}
use Rattle.std.specs.List.{flat_map, range_with_len}
use Rattle.std.proofs.lemmas.List.{map-append}
use Rattle.std.proofs.lemmas.List.FromFn.{length-map-range_with_len, map-range_with_len_more}
use Rattle.bsi_components.specs.PlaceNumbers.{place_count}
use Rattle.bsi_digits.specs.Digits.{digit_of}
use Rattle.bsi_digits.specs.Comparisons.{number_or_zero}
use Rattle.bsi_kernels.specs.Places.{has_place}
use Rattle.bsi_columns.specs.ComponentPlaces.{component_bitmaps, digit_bitmaps}
use Rattle.bsi_columns.specs.StoredBitmaps.{bitmaps_by, digit_places, places_under, slice_places}
use Rattle.bsi_columns.proofs.PieceLists.{map-pieces, pieces_more, pieces_same}

-- of which entries a test holds
abbrev pub rows_of_test : List (Option ℕ) → (ℕ → Bool) → List Bool
rows_of_test entries test = map (λ e. test (number_or_zero e)) entries

-- as many slices as the width
pub length-slice_places : (w : ℕ) → length (slice_places w) ≡ w
length-slice_places w = length-map-range_with_len has_place 0 w

-- one slice more
pub slices_more : (entries : List (Option ℕ)) (k : ℕ) → bitmaps_by (slice_places (k + 1)) entries ≡ bitmaps_by (slice_places k) entries ++ map (λ e. has_place k (number_or_zero e)) entries ∷ []
slices_more entries k =
    ap (λ tests. bitmaps_by tests entries) (map-range_with_len_more has_place 0 k k (omega arith))
    ∙ ap (λ rows. map is_some entries ∷ rows) (map-append (rows_of_test entries) (slice_places k) (has_place k ∷ []))

pub maps_twice : {X Y Z : Type 0} (f : X → Y) (g : Y → Z) (xs : List X) → map g (map f xs) ≡ map (λ x. g (f x)) xs
maps_twice f g [] = refl
maps_twice f g (x ∷ xs) = ap (λ ys. g (f x) ∷ ys) (maps_twice f g xs)

map_by : {X Y : Type 0} (f g : X → Y) (xs : List X) → ((x : X) → f x ≡ g x) → map f xs ≡ map g xs
map_by f g [] same = refl
map_by f g (x ∷ xs) same = (λ i. same x i ∷ map_by f g xs same i)

module _ (bs : List ℕ) (entries : List (Option ℕ)) where
  -- the digits of a component
  abbrev pub digits_in : ℕ → List ℕ
  digits_in i = map (λ e. digit_of bs (number_or_zero e) i) entries

  -- the places of a component are those of its digits
  pub places_of_digits : (i : ℕ) → map (rows_of_test entries) (digit_places bs i) ≡ digit_bitmaps (get_or bs i 0) (digits_in i)
  places_of_digits i =
      maps_twice (λ (k : ℕ). λ (n : ℕ). has_place k (digit_of bs n i)) (rows_of_test entries) (range_with_len 0 (place_count (get_or bs i 0)))
      ∙ map_by (λ (k : ℕ). map (λ e. has_place k (digit_of bs (number_or_zero e) i)) entries) (λ (k : ℕ). map (has_place k) (digits_in i)) (range_with_len 0 (place_count (get_or bs i 0)))
      (λ k. sym (maps_twice (λ e. digit_of bs (number_or_zero e) i) (has_place k) entries))

  -- the bitmaps of the first components
  abbrev pub bitmaps_upto : ℕ → List (List Bool)
  bitmaps_upto i = map is_some entries ∷ map (rows_of_test entries) (flat_map (digit_places bs) (range_with_len 0 i))

  -- one component more
  pub components_more : (i : ℕ) → bitmaps_upto (i + 1) ≡ bitmaps_upto i ++ digit_bitmaps (get_or bs i 0) (digits_in i)
  components_more i =
      ap (λ tests. map is_some entries ∷ map (rows_of_test entries) tests) (pieces_more (digit_places bs) i)
      ∙ ap (λ rows. map is_some entries ∷ rows) (map-append (rows_of_test entries) (flat_map (digit_places bs) (range_with_len 0 i)) (digit_places bs i))
      ∙ ap (λ rows. bitmaps_upto i ++ rows) (places_of_digits i)

  -- all components
  pub component_bitmaps_of : (ds : List (List ℕ)) → ((i : ℕ) → i < length bs → get_or ds i [] ≡ digits_in i)
      → map (rows_of_test entries) (places_under bs) ≡ component_bitmaps bs ds
  component_bitmaps_of ds are =
      map-pieces (rows_of_test entries) (digit_places bs) (length bs)
      ∙ pieces_same (λ i. map (rows_of_test entries) (digit_places bs i)) (λ i. digit_bitmaps (get_or bs i 0) (get_or ds i [])) (length bs)
      (λ i within. places_of_digits i ∙ ap (digit_bitmaps (get_or bs i 0)) (sym (are i within)))
