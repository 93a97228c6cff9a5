use Rattle.csv.specs.Reading.{default_config}
use Rattle.bsi_input.proofs.Joining.{read_both}
use Rattle.bsi_input.proofs.laws.read_by_calls.Goals as goal

pub returns : goal.returns
returns g c = λ x y z first last one two. read_both default_config g.R.Read.remaining x y z first last one two
