use Rattle.bsi_slices.proofs.SliceEntries.{entries_in-nil}
use Rattle.bsi_slices.proofs.slices.Slices.new.Goals as goal

pub returns-clause-entries : goal.returns-clause-entries
returns-clause-entries c = entries_in-nil c.new-2.result.bits c.in_ok-slices.slices.vectors c.new-2.ensures
