use Rattle.std.proofs.Common.{[], refl, sym, arith}
use Rattle.bsi_bits.proofs.Reading.{bits_are, length-bits_of}
use Rattle.bsi_bits.proofs.bits.Bits.clear.Goals as goal

pub returns-clause-bits : goal.returns-clause-bits
returns-clause-bits c = sym (bits_are 0 c.clear.new.self.items [] refl (λ i below. absurd (omega arith)))

pub returns-clause-room : goal.returns-clause-room
returns-clause-room c =
    rw (← c.self.view_is, length-bits_of c.self.inside.len c.self.inside.words.items)
    (omega (arith, c.clear.ensures.capacity, c.self.invariant.within))
