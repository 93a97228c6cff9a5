use Rattle.std.proofs.Common.{arith}
use Rattle.bsi_bits.proofs.Reading.{length-bits_of}
use Rattle.bsi_bits.proofs.bits.Bits.push_all_reserved.Goals as goal

pub push_all-requires-clause-within : goal.push_all-requires-clause-within
push_all-requires-clause-within c =
    let room = rw (← c.self.view_is, ← c.other.view_is, length-bits_of c.other.inside.len c.other.inside.words.items) at c.requires in
    omega (arith, room, c.self.invariant.within)

pub push_all-requires-clause-room : goal.push_all-requires-clause-room
push_all-requires-clause-room c =
    let room = rw (← c.self.view_is, ← c.other.view_is, length-bits_of c.other.inside.len c.other.inside.words.items) at c.requires in
    omega (arith, room, c.self.invariant.within)

pub returns-clause-room : goal.returns-clause-room
returns-clause-room c =
    rw (← c.self.view_is, ← c.other.view_is, length-bits_of c.other.inside.len c.other.inside.words.items)
    (omega (arith, c.push_all.ensures.capacity))
