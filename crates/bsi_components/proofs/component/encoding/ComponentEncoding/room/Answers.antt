use Rattle.std.proofs.Common.{arith}
use Rattle.bsi_components.proofs.MarkedDigits.{marked_rows}
use Rattle.bsi_components.proofs.component.encoding.ComponentEncoding.room.Goals as goal

pub returns-clause-within : goal.returns-clause-within
returns-clause-within g c = rw (← c.self.view_is) (omega (arith, c.room.ensures.within, marked_rows g.met.M.Marking.sound c.self.invariant))
