use Rattle.std.proofs.Common.{◌≡◌, map}
use Rattle.bsi_components.specs.PlaceNumbers.{numbers_in}
use Rattle.bsi_components.proofs.PlaceNumbers.{equal_by}
use Rattle.bsi_components.proofs.building.rows_equal.Given as goal

-- the rows equal by the places so far
abbrev pub invariant-places : goal.invariant-places
invariant-places l = l.rows.bits ≡ map (equal_by l.d l.k) (numbers_in l.places)
