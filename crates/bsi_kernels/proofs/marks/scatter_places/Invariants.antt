use Rattle.std.proofs.Common.{◌*◌}
use Rattle.bsi_bits.proofs.Filling.{IsFilled}
use Rattle.bsi_kernels.proofs.Decoding.{at_both}
use Rattle.bsi_kernels.proofs.marks.scatter_places.Given as goal

abbrev pub invariant-eights : goal.invariant-eights
invariant-eights l = IsFilled (at_both l.low l.high) (8 * l.h) l.fn.words l.words

abbrev pub invariant-rest : goal.invariant-rest
invariant-rest l = IsFilled (at_both l.low l.high) l.j l.fn.words l.words
