use Rattle.std.proofs.Common.{◌+◌, length, ap, arith}
use Rattle.bsi_kernels.proofs.MarkBits.{first_zeros}
use Rattle.bsi_components.proofs.component.push_block.Goals as goal

pub push_marked-requires-clause-clear : goal.push_marked-requires-clause-clear
push_marked-requires-clause-clear g c =
    λ j. first_zeros 70 (c.first_stored.result + length c.as_slice.result.now) j (omega (arith, c.if-count-le-MAX_SCATTER_WORDS.true))

pub push_marked-requires-else-count-le-MAX_SCATTER_WORDS-clause-clear : goal.push_marked-requires-else-count-le-MAX_SCATTER_WORDS-clause-clear
push_marked-requires-else-count-le-MAX_SCATTER_WORDS-clause-clear g c =
    λ j. first_zeros 1034 (c.first_stored.result + length c.as_slice.result.now) j (omega (
      arith,
      c.requires.places.few,
      c.requires.base,
      c.first_stored.ensures,
      g.met.M.Marking.sound.low c.args.base,
      ap length c.as_slice.ensures.vectors,
    ))
