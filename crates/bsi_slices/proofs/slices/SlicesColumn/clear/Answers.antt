use Rattle.std.proofs.Common.{arith}
use Rattle.bsi_slices.proofs.SliceEntries.{length-entries_in}
use Rattle.bsi_slices.proofs.slices.SlicesColumn.clear.Goals as goal

pub returns-clause-room : goal.returns-clause-room
returns-clause-room c =
    rw (← c.self.view_is) (omega (arith, c.clear_rows.ensures.room, length-entries_in c.self.inside.not_null.bits c.self.inside.slices.vectors))
