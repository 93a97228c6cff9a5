use Rattle.bsi_slices.proofs.BlockNumbers.{AreGathered}
use Rattle.bsi_slices.proofs.transposing.numbers_by_places.Given as goal

-- the words of the places so far
abbrev pub invariant-places : goal.invariant-places
invariant-places l = AreGathered l.places l.at l.k l.numbers
