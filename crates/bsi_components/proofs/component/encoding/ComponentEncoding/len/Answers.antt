use Rattle.std.proofs.Common.{◌∙◌}
use Rattle.bsi_components.proofs.MarkedDigits.{marked_rows}
use Rattle.bsi_components.proofs.component.encoding.ComponentEncoding.len.Goals as goal

pub returns-clause-len : goal.returns-clause-len
returns-clause-len g c = rw (← c.self.view_is) (c.len.ensures.first ∙ marked_rows g.met.M.Marking.sound c.self.invariant)
