use Rattle.std.proofs.Common.{sym, ◌∙◌}
use Rattle.bsi_slices.proofs.SliceEntries.{length-entries_in}
use Rattle.bsi_slices.proofs.slices.SlicesColumn.len.Goals as goal

pub returns-clause-len : goal.returns-clause-len
returns-clause-len c = rw (← c.self.view_is) (c.len.ensures.len ∙ sym (length-entries_in c.self.inside.not_null.bits c.self.inside.slices.vectors))
