-- The weights that are stored with a list of bases (`AreWeights`); `Digits` says what a weight is.
use Rattle.std.specs.Prelude.{◌≡◌, ℕ, ◌≤◌, List, length, slice_index}
use Rattle.bsi_digits.specs.Digits.{weight}

-- the weights of the components, and after the last weight the size
pub record AreWeights (bs ws : List ℕ) : Type 0 where
  pub each : (i : ℕ) → i ≤ length bs → slice_index ws i ≡ weight bs i
