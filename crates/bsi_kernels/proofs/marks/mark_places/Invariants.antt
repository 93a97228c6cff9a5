use Rattle.bsi_kernels.proofs.MarkPlaces.{IsFolding}
use Rattle.bsi_kernels.proofs.marks.mark_places.Given as goal

abbrev pub invariant-places : goal.invariant-places
invariant-places l = IsFolding l.base l.place l.fn.words l.words l.folded
