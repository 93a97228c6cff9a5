-- Numbers in binary: a bitmap for each place, alone or after the bitmaps of an encoding; and one step of a comparison
-- of numbers digit by digit, from the least significant up (`at_most_step`).
use Rattle.std.specs.Prelude.{◌≡◌, ℕ, ◌+◌, ◌-◌, ◌^◌, ◌<◌, ◌≤◌, ◌==◌, ◌&&◌, ◌||◌, Bool, List, length, map, nat_eq, nat_lt, if◌then◌else◌}
use Rattle.std.specs.Int.{bit_at}
use Rattle.bsi_bits.specs.BitList.{BitList}
use Rattle.bsi_bits.specs.BitLists.{bits_at}

-- the most binary places of a number
abbrev pub max_places : ℕ
max_places = 63

-- the most binary places of a digit: those of the digits below 1,024, the greatest base
abbrev pub max_digit_places : ℕ
max_digit_places = 10

-- the least base under which binary places are stored
abbrev pub min_base_with_places : ℕ
min_base_with_places = 4

-- bitmap j is set where the predicate `holds j` is true of the number
pub record IsEncoded (holds : ℕ → ℕ → Bool) (bitmaps : List BitList) (numbers : List ℕ) : Type 0 where
  pub each : (j : ℕ) → j < length bitmaps → bits_at bitmaps j ≡ map (holds j) numbers

-- a bit as a number
abbrev pub bit_value : Bool → ℕ
bit_value bit = if bit then 1 else 0

-- binary place k of the number is 1
abbrev pub has_place : ℕ → ℕ → Bool
has_place k number = bit_at number k == 1

-- the predicate of bitmap j: that of an encoding for the first `own` bitmaps, and a binary place for each later one
abbrev pub then_places : ℕ → (ℕ → ℕ → Bool) → ℕ → ℕ → Bool
then_places own holds j number = if nat_lt j own then holds j number else has_place (j - own) number

-- a number of bitmaps of a component: `own` bitmaps of its encoding, and one for each stored binary place
pub record IsCount (base own count : ℕ) : Type 0 where
  -- the bitmaps of the encoding are included
  pub owned : own ≤ count
  -- at most 10 binary places are stored
  pub few : count ≤ own + max_digit_places
  -- if binary places are stored, all places of the digits are
  pub enough : own < count → base ≤ 2 ^ (count - own)
  -- from base 4 on binary places are stored
  pub some : min_base_with_places ≤ base → own < count

-- one step of a comparison from the least significant digit up: the number is at most the constant, where `low` is the
-- answer for the digits below
abbrev pub at_most_step : Bool → ℕ → ℕ → Bool
at_most_step low digit constant = nat_lt digit constant || nat_eq digit constant && low
