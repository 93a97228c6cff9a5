use Rattle.bsi_kernels.proofs.Decoding.{AreSpelled}
use Rattle.bsi_kernels.proofs.marks.decode_places.Given as goal

abbrev pub invariant-words : goal.invariant-words
invariant-words l = AreSpelled l.first l.second l.third l.j l.words
