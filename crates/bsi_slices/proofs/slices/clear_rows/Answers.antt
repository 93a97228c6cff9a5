use Rattle.bsi_slices.proofs.SliceEntries.{entries_in-nil}
use Rattle.bsi_slices.proofs.slices.clear_rows.Goals as goal

pub returns-clause-entries : goal.returns-clause-entries
returns-clause-entries c = entries_in-nil c.clear-2.new.self.bits c.clear.new.self.vectors c.clear-2.ensures.bits
