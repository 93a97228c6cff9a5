-- Which columns of a table may be chosen (`IsChoice`).
use Rattle.std.specs.Prelude.{◌≡◌, ℕ, ◌<◌, ◌≤◌, List, All, length, slice_index}

-- Columns that may be chosen of `count`: at least one, each of them there, and none twice.
pub record IsChoice (count : ℕ) (chosen : List ℕ) : Type 0 where
  -- At least one column is chosen, and no more than there are.
  pub some : 0 < length chosen
  pub few : length chosen ≤ count
  -- Each chosen column is there.
  pub there : All (λ c. c < count) chosen
  -- No column is chosen twice.
  pub once : (a b : ℕ) → a < length chosen → b < length chosen → slice_index chosen a ≡ slice_index chosen b → a ≡ b
