use Rattle.std.proofs.Common.{arith}
use Rattle.bsi_slices.proofs.SliceEntries.{length-entries_in}
use Rattle.bsi_slices.proofs.slices.SlicesColumn.room.Goals as goal

pub returns-clause-within : goal.returns-clause-within
returns-clause-within c =
    rw (← c.self.view_is) (omega (arith, c.min.ensures, c.room-2.ensures.within, length-entries_in c.self.inside.not_null.bits c.self.inside.slices.vectors))
