use Rattle.bsi_rows.proofs.Events.{stays_closed}
use Rattle.bsi_rows.proofs.laws.closed_stays_closed.Goals as goal

pub returns : goal.returns
returns c = λ s events replies lawful. stays_closed s events replies lawful
