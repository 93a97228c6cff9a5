-- The bitmaps of a column as a file stores them: which rows have a number, and each binary place.
use Rattle.std.specs.Prelude.{◌≢◌, ℕ, ◌<◌, Bool, List, ◌∷◌, Option, All, is_some, map, slice_index}
use Rattle.std.specs.List.{flat_map, range_with_len}
use Rattle.bsi_bits.specs.BitList.{BitList}
use Rattle.bsi_components.specs.PlaceNumbers.{place_count}
use Rattle.bsi_digits.specs.Digits.{components, digit_of}
use Rattle.bsi_digits.specs.Comparisons.{number_or_zero}
use Rattle.bsi_kernels.specs.Places.{has_place}
use Rattle.bsi_columns.specs.AnyColumns.{equality_under, range_under, slices_of, AnyForm}

-- the bits of each vector
abbrev pub bits_each : List BitList → List (List Bool)
bits_each vectors = map (λ vector. vector.bits) vectors

-- the tests of a number by the binary places below w, the least first
abbrev pub slice_places : ℕ → List (ℕ → Bool)
slice_places w = map has_place (range_with_len 0 w)

-- the tests of a number by the binary places of its digit of component i
abbrev pub digit_places : List ℕ → ℕ → List (ℕ → Bool)
digit_places bs i = map (λ k. λ n. has_place k (digit_of bs n i)) (range_with_len 0 (place_count (slice_index bs i)))

-- the tests of a number by the binary places of all its digits, the least significant digit first
abbrev pub places_under : List ℕ → List (ℕ → Bool)
places_under bs = flat_map (digit_places bs) (components bs)

-- the tests of a number whose answers a column of this form stores
abbrev pub form_places : AnyForm → List (ℕ → Bool)
form_places (slices_of w) = slice_places w
form_places (equality_under bs) = places_under bs
form_places (range_under bs) = places_under bs

-- the bitmap of the entries that are numbers, and for each test the bitmap of its answers; a null has the answers of 0
abbrev pub bitmaps_by : List (ℕ → Bool) → List (Option ℕ) → List (List Bool)
bitmaps_by tests entries = map is_some entries ∷ map (λ test. map (λ e. test (number_or_zero e)) entries) tests

-- the bitmaps of entries that a column of this form stores
abbrev pub column_bitmaps : AnyForm → List (Option ℕ) → List (List Bool)
column_bitmaps form entries = bitmaps_by (form_places form) entries

-- no entries below the size have the bitmaps
abbrev pub HaveNoEntriesBelow : List (ℕ → Bool) → ℕ → List (List Bool) → Type 0
HaveNoEntriesBelow tests size bitmaps =
    (entries : List (Option ℕ)) → All (λ e. number_or_zero e < size) entries → bitmaps_by tests entries ≢ bitmaps
