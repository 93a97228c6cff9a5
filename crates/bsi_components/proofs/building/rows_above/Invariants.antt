use Rattle.std.proofs.Common.{◌≡◌, map}
use Rattle.bsi_components.specs.PlaceNumbers.{numbers_in}
use Rattle.bsi_components.proofs.PlaceNumbers.{above_by}
use Rattle.bsi_components.proofs.building.rows_above.Given as goal

-- the rows above by the places so far
abbrev pub invariant-places : goal.invariant-places
invariant-places l = l.rows.bits ≡ map (above_by l.d l.k) (numbers_in l.places)
