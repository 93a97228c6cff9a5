use Rattle.bsi_kernels.proofs.PlaceWords.{ArePlaces}
use Rattle.bsi_kernels.proofs.marks.place_words.Given as goal

abbrev pub invariant-places : goal.invariant-places
invariant-places l = ArePlaces l.p l.block l.words
