use Rattle.std.proofs.Common.{false, arith}
use Rattle.bsi_bits.proofs.Reading.{length-bits_of}
use Rattle.bsi_bits.proofs.Pushing.{pushed_packed, pushed_bits, pushes_nothing}
use Rattle.bsi_bits.proofs.bits.Bits.lengthen.Goals as goal

pub invariant_of-self : goal.invariant_of-self
invariant_of-self c =
    let partial = rw (← c.self.view_is) at c.requires.partial in
    let room = rw (← c.self.view_is) at c.requires.room in
    pushed_packed c.self.inside.len false c.self.inside.words.items c.self.inside.words.items (omega (arith, room, c.self.invariant.within))
    (pushes_nothing c.self.inside.len c.self.inside.words.items c.self.invariant (omega (arith, partial, length-bits_of c.self.inside.len c.self.inside.words.items)))

pub returns-clause-bits : goal.returns-clause-bits
returns-clause-bits c =
    let partial = rw (← c.self.view_is) at c.requires.partial in
    rw (← c.self.view_is) (pushed_bits c.self.inside.len false c.self.inside.words.items c.self.inside.words.items
    (pushes_nothing c.self.inside.len c.self.inside.words.items c.self.invariant (omega (arith, partial, length-bits_of c.self.inside.len c.self.inside.words.items))))
