use Rattle.bsi_table.proofs.Parts.{parts_of}
use Rattle.bsi_table.proofs.selection.+narrow.Given as goal

abbrev pub decreases-narrow : goal.decreases-narrow
decreases-narrow l = parts_of l.pred.now
