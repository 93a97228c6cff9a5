use Rattle.bsi_slices.proofs.StateWords.{no_row}
use Rattle.bsi_slices.proofs.slices.related.no_rows.Goals as goal

pub returns-clause-bits : goal.returns-clause-bits
returns-clause-bits c = λ p. no_row 512 p
