use Rattle.bsi_rows.proofs.Balance.{conserved}
use Rattle.bsi_rows.proofs.laws.nothing_is_lost.Goals as goal

pub returns : goal.returns
returns c = λ s past lawful. conserved s past lawful
