-- Rising indices of words of a bitmap; every word that is not 0 is among them (`AreListed`).
use Rattle.std.specs.Prelude.{◌≢◌, ℕ, ◌+◌, ◌<◌, ◌≤◌, Contains, List, length, slice_index, take}

-- the first `count` indices list some of the first n words
pub record AreListed (n : ℕ) (indices : List ℕ) (count : ℕ) (words : List ℕ) : Type 0 where
  -- there are at least `count` indices
  pub few : count ≤ length indices
  -- each index is that of one of the first n words
  pub within : (i : ℕ) → i < count → slice_index indices i < n
  -- each index is below the next one
  pub rising : (i : ℕ) → i + 1 < count → slice_index indices i < slice_index indices (i + 1)
  -- each word that is not 0, so has a row, is listed
  pub all : (k : ℕ) → k < n → slice_index words k ≢ 0 → Contains (take count indices) k
