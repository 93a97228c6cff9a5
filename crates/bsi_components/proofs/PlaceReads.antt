-- A word or a span of a binary place, as it is read.
use Rattle.std.proofs.Common.{◌≡◌, ℕ, ◌+◌, ◌*◌, ◌/◌, ◌%◌, ◌<◌, Bool, true, false, List, length, map, get_or, cond, ap, ap₂, ◌∙◌, arith}
use Rattle.std.specs.Prelude.{◌==◌}
use Rattle.std.specs.Int.{bit_at}
use Rattle.std.proofs.lemmas.List.{get_or-map}
use Rattle.bsi_bits.specs.BitList.{BitList}
use Rattle.bsi_bits.specs.Packed.{bit_of}
use Rattle.bsi_kernels.proofs.BitmapReads.{read_bitmap}
use Rattle.bsi_kernels.specs.Places.{has_place, IsEncoded}
use Rattle.bsi_components.specs.Bitmaps.{stored_places}
use Rattle.bsi_components.specs.PlaceNumbers.{place_count}

-- where places are kept, all are
stored_within : (base n k : ℕ) → n ≡ stored_places base → 0 < n → k < place_count base → k < n
stored_within base n k many some within = by _ many
  where
    by : (few : Bool) → n ≡ cond few 0 (place_count base) → k < n
    by true none = absurd (omega (arith, none, some))
    by false all = omega (arith, all, within)

-- the bit of a row, in the word where it stands
pub word_bit : (words : List ℕ) (at r : ℕ) → r < 64 → (bit_at (get_or words at 0) r == 1) ≡ bit_of words (64 * at + r)
word_bit words at r near =
    let word : at ≡ (64 * at + r) / 64 = omega arith in
    let place : r ≡ (64 * at + r) % 64 = omega arith in
    ap₂ (λ i p. bit_at (get_or words i 0) p == 1) word place

module _ (places : List BitList) (digits : List ℕ) (base k : ℕ) (place : BitList) (encoded : IsEncoded has_place places digits) (many : length places ≡ stored_places base)
    (some : 0 < length places) (within : k < place_count base) (read : place ≡ get_or places k place) where
  -- the vector of a place, where places are kept
  place_is : place.bits ≡ map (has_place k) digits
  place_is =
      let there = stored_within base (length places) k many some within in
      ap (λ v. v.bits) (read_bitmap places k place there read) ∙ encoded.each k there

  -- a row of it
  pub place_read : (r : ℕ) → r < length digits → get_or place.bits r false ≡ has_place k (get_or digits r 0)
  place_read r row = ap (λ v. get_or v r false) place_is ∙ get_or-map (has_place k) digits r 0 false row

  -- and one of its words
  pub place_bit : (at r : ℕ) (words : List ℕ) → ((i : ℕ) → bit_of words i ≡ get_or place.bits i false)
      → r < 64 → 64 * at + r < length digits → (bit_at (get_or words at 0) r == 1) ≡ has_place k (get_or digits (64 * at + r) 0)
  place_bit at r words bits near row = word_bit words at r near ∙ bits (64 * at + r) ∙ place_read (64 * at + r) row
