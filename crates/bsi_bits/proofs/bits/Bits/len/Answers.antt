use Rattle.std.proofs.Common.{sym, arith}
use Rattle.bsi_bits.proofs.Reading.{length-bits_of}
use Rattle.bsi_bits.proofs.bits.Bits.len.Goals as goal

pub returns-clause-len : goal.returns-clause-len
returns-clause-len c = rw (← c.self.view_is) (sym (length-bits_of c.self.inside.len c.self.inside.words.items))

pub returns-clause-full : goal.returns-clause-full
returns-clause-full c =
    rw (← c.self.view_is, length-bits_of c.self.inside.len c.self.inside.words.items)
    (omega (arith, c.self.invariant.within, c.self.invariant.few, c.self.inside.words.ok.0))
