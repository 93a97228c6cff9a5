-- The state of the search for the digit of the row of a given rank: between which digits it is (`IsBetween`).
use Rattle.std.specs.Prelude.{◌≡◌, ℕ, ◌<◌, ◌≤◌, Bool, List, nat_lt, nat_le}
use Rattle.bsi_components.specs.Component.{count_where}

-- the digit of the row of a rank is from `low` to `high`
pub record IsBetween (base rank : ℕ) (selection : List Bool) (digits : List ℕ) (low high below : ℕ) : Type 0 where
  -- the range of digits is not empty
  pub order : low ≤ high
  -- the greatest digit of the range is below the base
  pub within : high < base
  -- `below` rows of the selection have a digit below `low`
  pub below_is : below ≡ count_where (λ v. nat_lt v low) selection digits
  -- the rank is past the rows below `low`
  pub at_least : below ≤ rank
  -- the rank is among the rows up to `high`
  pub under : rank < count_where (λ v. nat_le v high) selection digits
