use Rattle.bsi_input.proofs.Taking.{taken_none}
use Rattle.bsi_input.proofs.laws.nothing_read.Goals as goal

pub returns : goal.returns
returns g c = λ layout input counts. taken_none g.R.Read.remaining layout input counts
