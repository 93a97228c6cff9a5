-- Components whose bitmaps are made of the binary places of their digits.
use Rattle.std.proofs.Common.{◌≡◌, ℕ, ◌+◌, ◌-◌, ◌^◌, ◌<◌, ◌≤◌, Bool, true, false, List, ◌++◌, length, get_or, map, inl, inr, ap, sym, ◌∙◌, refl, arith, length-append}
use Rattle.std.specs.Prelude.{nat_lt, if◌then◌else◌}
use Rattle.std.proofs.lemmas.Bool.{cases_lt}
use Rattle.std.proofs.lemmas.Bool.Decides.{nat_tests}
use Rattle.bsi_bits.specs.BitList.{BitList}
use Rattle.bsi_bits.specs.BitLists.{bits_at}
use Rattle.bsi_digits.specs.Digits.{IsBase}
use Rattle.bsi_kernels.specs.Places.{has_place, then_places, IsEncoded}
use Rattle.bsi_kernels.proofs.DigitMaps.{map_same}
use Rattle.bsi_kernels.proofs.PlaceBitmaps.{own_test, place_test, count_made}
use Rattle.bsi_components.specs.Bitmaps.{stored_places}
use Rattle.bsi_components.specs.Encodings.{IsMarked}
use Rattle.bsi_components.proofs.BitmapDigits.{length-bits_at}
use Rattle.bsi_components.proofs.PlaceNumbers.{bits_left, bits_right}

-- how many places are kept
pub record IsStoredCount (base stored : ℕ) : Type 0 where
  pub stored_is : stored ≡ stored_places base
  pub few : stored ≤ 10
  pub enough : 0 < stored → base ≤ 2 ^ stored
  pub some : 4 ≤ base → 0 < stored

-- the bitmaps, and the places behind them if any are kept
abbrev pub with_stored : ℕ → List BitList → List BitList → List BitList
with_stored stored made places = if nat_lt 0 stored then made ++ places else made

more_than : (k : ℕ) → nat_lt 0 k ≡ true → 0 < k
more_than k on = grind (arith, nat_tests)

not_more : (k : ℕ) → nat_lt 0 k ≡ false → k ≡ 0
not_more k off = grind (arith, nat_tests)

module _ (own stored : ℕ) (holds : ℕ → ℕ → Bool) (made places : List BitList) (ns : List ℕ) (long : length made ≡ own)
    (bits : (j : ℕ) → j < own → bits_at made j ≡ map (holds j) ns) (encoded : IsEncoded has_place places ns) (many : 0 < stored → stored ≡ length places) where
  long_by : (more : Bool) → nat_lt 0 stored ≡ more → length (if more then made ++ places else made) ≡ own + stored
  long_by true is = omega (arith, length-append made places, long, many (more_than stored is))
  long_by false is = omega (arith, long, not_more stored is)

  pub built_long : length (with_stored stored made places) ≡ own + stored
  built_long = long_by (nat_lt 0 stored) refl

  own_bitmap : (j : ℕ) → j < own → map (holds j) ns ≡ map (then_places own holds j) ns
  own_bitmap j inside = sym (map_same (then_places own holds j) (holds j) (λ v. own_test own holds j v inside) ns)

  encoded_by : (more : Bool) → nat_lt 0 stored ≡ more → IsEncoded (then_places own holds) (if more then made ++ places else made) ns
  encoded_by true is = record {
    each = λ j below. elim (cases_lt j own) [
      | inl inside ↦ bits_left made places j (omega (arith, inside, long)) ∙ bits j inside ∙ own_bitmap j inside
      | inr past ↦
          bits_right made places own j long past
          ∙ encoded.each (j - own) (omega (arith, below, past, long, length-append made places))
          ∙ sym (map_same (then_places own holds j) (has_place (j - own)) (λ v. place_test own holds j v past) ns)
    ];
  }
  encoded_by false is = record {
    each = λ j below. let inside : j < own = omega (arith, below, long) in bits j inside ∙ own_bitmap j inside;
  }

  pub built : IsEncoded (then_places own holds) (with_stored stored made places) ns
  built = encoded_by (nat_lt 0 stored) refl

  pub built_even : 0 < own → (j : ℕ) → j < length (with_stored stored made places) → length (bits_at (with_stored stored made places) j) ≡ length (bits_at (with_stored stored made places) 0)
  built_even some j below =
      length-bits_at (then_places own holds) (with_stored stored made places) ns built j below
      ∙ sym (length-bits_at (then_places own holds) (with_stored stored made places) ns built 0 (omega (arith, some, built_long)))

-- a component of bitmaps
pub marked_built : (first : ℕ → ℕ) (marks : ℕ → ℕ → Bool) (base stored : ℕ) (made places : List BitList) (ns : List ℕ) → IsBase base → IsStoredCount base stored → length made ≡ base - first base
    → ((j : ℕ) → j < base - first base → bits_at made j ≡ map (marks (first base + j)) ns) → IsEncoded has_place places ns → (0 < stored → stored ≡ length places)
    → ((k : ℕ) → get_or ns k 0 < base) → IsMarked first marks base (with_stored stored made places) ns
marked_built first marks base stored made places ns is_base count long bits encoded many below =
    let own = base - first base in
    let holds : ℕ → ℕ → Bool = λ j v. marks (first base + j) v in
    let n = built_long own stored holds made places ns long bits encoded many in
    record {
      count = count_made base own stored (length (with_stored stored made places)) n count.few count.enough count.some;
      many = n ∙ ap (λ k. own + k) count.stored_is;
      least = is_base.0;
      most = is_base.1;
      below = below;
      encoded = built own stored holds made places ns long bits encoded many;
    }
