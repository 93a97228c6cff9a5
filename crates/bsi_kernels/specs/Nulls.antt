-- Whether bitmaps are clear at each row without a number (`AreClearAtNulls`), or one of them has a bit there.
use Rattle.std.specs.Prelude.{◌≡◌, ℕ, ◌<◌, Bool, true, false, List, length, slice_index_or}
use Rattle.bsi_bits.specs.BitList.{BitList}
use Rattle.bsi_bits.specs.BitLists.{bits_at}

-- each bitmap is clear at the rows without a number
abbrev pub AreClearAtNulls : List Bool → List BitList → Type 0
AreClearAtNulls not_null bitmaps =
    (k r : ℕ) → k < length bitmaps → r < length not_null → slice_index_or not_null r false ≡ false
    → slice_index_or (bits_at bitmaps k) r false ≡ false

-- a bitmap is set at a row without a number
abbrev pub HasBitOfNull : List Bool → List BitList → Type 0
HasBitOfNull not_null bitmaps =
    (k : ℕ) × (r : ℕ) × (k < length bitmaps) × (r < length not_null) × (slice_index_or not_null r false ≡ false)
    × (slice_index_or (bits_at bitmaps k) r false ≡ true)
