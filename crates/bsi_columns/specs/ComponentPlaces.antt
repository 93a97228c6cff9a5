-- One bitmap for each binary place of the digits of each component (`component_bitmaps`).
use Rattle.std.specs.Prelude.{ℕ, Bool, List, [], map, slice_index, slice_index_or}
use Rattle.std.specs.List.{flat_map, range_with_len}
use Rattle.bsi_components.specs.PlaceNumbers.{place_count}
use Rattle.bsi_digits.specs.Digits.{components}
use Rattle.bsi_kernels.specs.Places.{has_place}

-- the binary places of digits below a base, the least first
abbrev pub digit_bitmaps : ℕ → List ℕ → List (List Bool)
digit_bitmaps base digits = map (λ k. map (has_place k) digits) (range_with_len 0 (place_count base))

-- the binary places of the digits of each component, the least significant component first
abbrev pub component_bitmaps : List ℕ → List (List ℕ) → List (List Bool)
component_bitmaps bs ds = flat_map (λ i. digit_bitmaps (slice_index bs i) (slice_index_or ds i [])) (components bs)
