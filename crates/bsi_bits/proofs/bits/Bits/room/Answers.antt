use Rattle.std.proofs.Common.{arith}
use Rattle.bsi_bits.proofs.Reading.{length-bits_of}
use Rattle.bsi_bits.proofs.bits.Bits.room.Goals as goal

pub returns-clause-within : goal.returns-clause-within
returns-clause-within c =
    rw (← c.self.view_is, length-bits_of c.self.inside.len c.self.inside.words.items)
    (omega (arith, c.min.ensures, c.self.invariant.within))
