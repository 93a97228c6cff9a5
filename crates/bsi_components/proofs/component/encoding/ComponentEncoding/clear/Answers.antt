use Rattle.std.proofs.Common.{sym, arith}
use Rattle.bsi_components.proofs.MarkedDigits.{marked_cleared, marked_digits, marked_rows, itself_marked}
use Rattle.bsi_components.proofs.component.encoding.ComponentEncoding.clear.Goals as goal

-- no bitmap has a bit
pub invariant_of-self : goal.invariant_of-self
invariant_of-self g c =
    itself_marked g.met.M.Marking.sound (marked_cleared c.self.invariant c.clear.new.self.vectors c.clear.ensures.count c.clear.ensures.empty)

pub returns-clause-digits : goal.returns-clause-digits
returns-clause-digits g c =
    sym (marked_digits g.met.M.Marking.sound (marked_cleared c.self.invariant c.clear.new.self.vectors c.clear.ensures.count c.clear.ensures.empty))

pub returns-clause-room : goal.returns-clause-room
returns-clause-room g c = rw (← c.self.view_is) (omega (arith, c.clear.ensures.room, marked_rows g.met.M.Marking.sound c.self.invariant))
