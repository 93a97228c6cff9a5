use Rattle.bsi_rows.proofs.Balance.{conserved}
use Rattle.bsi_input.proofs.Pasts.{has_past}
use Rattle.bsi_input.proofs.laws.nothing_is_lost.Goals as goal

pub returns : goal.returns
returns c = λ records lines shown turns. has_past records lines shown conserved turns
