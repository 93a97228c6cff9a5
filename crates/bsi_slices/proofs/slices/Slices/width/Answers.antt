use Rattle.bsi_slices.proofs.SliceEntries.{entries_below}
use Rattle.bsi_slices.proofs.slices.Slices.width.Goals as goal

pub returns-clause-below : goal.returns-clause-below
returns-clause-below c = rw (← c.self.view_is) (entries_below c.self.inside.not_null.bits c.self.inside.slices.vectors)
