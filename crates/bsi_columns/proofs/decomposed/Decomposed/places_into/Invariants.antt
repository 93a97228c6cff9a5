use Rattle.std.proofs.Common.{◌≡◌, ℕ, ◌+◌, ◌*◌, ◌/◌, ◌<◌, ◌≤◌, length}
use Rattle.bsi_digits.specs.Digits.{weight}
use Rattle.bsi_columns.specs.Extremes.{number_at}
use Rattle.bsi_columns.specs.NumberPlaces.{IsNumberAt}
use Rattle.bsi_columns.proofs.decomposed.Decomposed.places_into.Given as goal

-- the digits of the components from i on are taken in
abbrev pub invariant-components : goal.invariant-components
invariant-components g l = record {
  long : length l.places ≡ length l.fn.places;
  numbers : (p : ℕ) → p < 64 * l.words → 64 * l.at + p < length l.self.entries → IsNumberAt l.places p (number_at l.self.entries (64 * l.at + p) / weight l.self.bases l.i);
  within : l.i ≤ length l.self.bases;
}
