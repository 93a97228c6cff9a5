-- The digits of a number under a list of bases (`IsDigits`), and which lists are accepted (`IsBaseList`). Bases and
-- digits are listed least significant first: component 0 is the first.
use Rattle.std.specs.Prelude.{◌≡◌, ℕ, ◌*◌, ◌/◌, ◌%◌, ◌^◌, ◌<◌, ◌≤◌, List, [], ◌∷◌, length, take, map, sum, sum_by, slice_index, EachIndex}
use Rattle.std.specs.List.{range_with_len}

-- the product of the bases: how many values have different digits
abbrev pub product : List ℕ → ℕ
product [] = 1
product (b ∷ bs) = b * product bs

-- the weight of a digit of component i: the product of the bases below it
abbrev pub weight : List ℕ → ℕ → ℕ
weight bs i = product (take i bs)

-- the numbers of the components
abbrev pub components : List ℕ → List ℕ
components bs = range_with_len 0 (length bs)

-- the sum of digit times weight over the listed components, in their order
abbrev pub weighted_sum : List ℕ → List ℕ → List ℕ → ℕ
weighted_sum bs ds order = sum_by (λ i. slice_index ds i * weight bs i) order

-- the digits of v: one for each base, below the base, and their weighted sum is v
pub record IsDigits (bs : List ℕ) (v : ℕ) (ds : List ℕ) : Type 0 where
  pub count : length ds ≡ length bs
  pub below : (i : ℕ) → i < length bs → slice_index ds i < slice_index bs i
  pub total : weighted_sum bs ds (components bs) ≡ v

-- the digit of component i
abbrev pub digit_of : List ℕ → ℕ → ℕ → ℕ
digit_of bs v i = v / weight bs i % slice_index bs i

-- the digits of all components
abbrev pub digits_of : List ℕ → ℕ → List ℕ
digits_of bs v = map (digit_of bs v) (components bs)

-- the most bases of a list
abbrev pub max_bases : ℕ
max_bases = 63

-- the least base of a list
abbrev pub min_base : ℕ
min_base = 2

-- the greatest base of a list
abbrev pub max_base : ℕ
max_base = 1024

-- the greatest sum of a list's bases
abbrev pub max_sum : ℕ
max_sum = 4096

-- the most numbers that have different digits under one list of bases, and the most that one column accepts
abbrev pub max_size : ℕ
max_size = 2 ^ 63

-- the greatest sum of the least number and the size of a column
abbrev pub max_end : ℕ
max_end = 2 ^ 63

-- a base: from 2 to 1,024
abbrev pub IsBase : ℕ → Type 0
IsBase b = (min_base ≤ b) × (b ≤ max_base)

-- an accepted list of bases
pub record IsBaseList (bs : List ℕ) : Type 0 where
  -- there is at least one base
  pub some : 0 < length bs
  -- there are at most 63 bases
  pub few : length bs ≤ max_bases
  -- each base is from 2 to 1,024
  pub each : EachIndex bs (λ i. IsBase (slice_index bs i))
  -- the sum of the bases, which bounds the number of bitmaps, is at most 4,096
  pub narrow : sum bs ≤ max_sum
  -- the product of the bases, which is the number of values, is at most 2^63
  pub small : product bs ≤ max_size
