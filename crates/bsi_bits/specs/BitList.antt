-- What a contract sees of a `Bits`: its bits and its room for more (`BitList`); how many bits there may be, which are
-- set (`set_positions`), and which are in some words.
use Rattle.std.specs.Prelude.{ℕ, ◌+◌, ◌-◌, ◌*◌, ◌/◌, ◌^◌, Bool, false, List, length, filter, slice_index_or, not, ◌&&◌, if◌then◌else◌}
use Rattle.std.specs.List.{range_with_len}
use Rattle.std.specs.Simd.Lanes.{chunk}

-- the most bits of a vector
abbrev pub max_len : ℕ
max_len = 2 ^ 32

-- the most words of a vector: those of the most bits
abbrev pub max_words : ℕ
max_words = 2 ^ 26

-- the most bits of a block, which are appended at once: those of a word
abbrev pub max_block : ℕ
max_block = 64

-- one more than the greatest sum of `max_len` numbers, each of at most 63 binary places
abbrev pub sum_end : ℕ
sum_end = 2 ^ 95

-- the bits from position 0 up, and how many more can be appended without memory
pub record BitList : Type 0 where
  pub bits : List Bool
  pub room : ℕ

-- one of two bits is set, and the other is not
abbrev pub differ : Bool → Bool → Bool
differ a b = if a then not b else b

-- the first of two bits is set, and the second is not
abbrev pub without : Bool → Bool → Bool
without a b = a && not b

-- the positions of the bits that are set, rising
abbrev pub set_positions : List Bool → List ℕ
set_positions bits = filter (λ i. slice_index_or bits i false) (range_with_len 0 (length bits))

-- the number of words of n bits
abbrev pub word_count : ℕ → ℕ
word_count n = (n + 63) / 64

-- the items in the words from `start` on and before `end`, where each word has 64 items
abbrev pub in_words : {X : Type 0} → ℕ → ℕ → List X → List X
in_words start end items = chunk (64 * start) (64 * (end - start)) items
