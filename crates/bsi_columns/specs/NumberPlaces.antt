-- The numbers of a block of rows by their binary places: for each place words with a bit for each row (`IsNumberAt`).
use Rattle.std.specs.Prelude.{◌≡◌, ℕ, ◌<◌, List, [], length, slice_index_or}
use Rattle.bsi_bits.specs.Packed.{bit_of}
use Rattle.bsi_kernels.specs.Places.{has_place}

-- bit p of each place, the least place first, is the binary place of the number
abbrev pub IsNumberAt : List (List ℕ) → ℕ → ℕ → Type 0
IsNumberAt places p number =
    (k : ℕ) → k < length places → bit_of (slice_index_or places k []) p ≡ has_place k number
