use Rattle.std.proofs.Common.{sym, arith}
use Rattle.bsi_components.proofs.MarkedDigits.{marked_count, marked_joined, marked_digits, itself_marked, marked_rows}
use Rattle.bsi_components.proofs.component.encoding.ComponentEncoding.push_all_reserved.Goals as goal

pub push_all_reserved-requires-clause-long : goal.push_all_reserved-requires-clause-long
push_all_reserved-requires-clause-long g c =
    let same_base = rw (← c.self.view_is, ← c.other.view_is) at c.requires.base in
    marked_count c.self.invariant c.other.invariant same_base

pub push_all_reserved-requires-clause-room : goal.push_all_reserved-requires-clause-room
push_all_reserved-requires-clause-room g c =
    let room = rw (← c.self.view_is, ← c.other.view_is) at c.requires.room in
    omega (arith, room, marked_rows g.met.M.Marking.sound c.other.invariant)

pub invariant_of-self : goal.invariant_of-self
invariant_of-self g c =
    let same_base = rw (← c.self.view_is, ← c.other.view_is) at c.requires.base in
    itself_marked g.met.M.Marking.sound (marked_joined c.self.invariant c.other.invariant same_base c.push_all_reserved.new.self.vectors c.push_all_reserved.ensures.count c.push_all_reserved.ensures.bits)

pub returns-clause-digits : goal.returns-clause-digits
returns-clause-digits g c =
    let same_base = rw (← c.self.view_is, ← c.other.view_is) at c.requires.base in
    rw (← c.self.view_is, ← c.other.view_is) (sym (marked_digits g.met.M.Marking.sound (marked_joined c.self.invariant c.other.invariant same_base c.push_all_reserved.new.self.vectors c.push_all_reserved.ensures.count c.push_all_reserved.ensures.bits)))

pub returns-clause-room : goal.returns-clause-room
returns-clause-room g c =
    rw (← c.self.view_is, ← c.other.view_is) (omega (arith, c.push_all_reserved.ensures.room, marked_rows g.met.M.Marking.sound c.other.invariant))
