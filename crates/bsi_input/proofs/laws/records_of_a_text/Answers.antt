use Rattle.csv.specs.Reading.{default_config, strip_bom}
use Rattle.bsi_input.proofs.Joining.{read_whole}
use Rattle.bsi_input.proofs.laws.records_of_a_text.Goals as goal

pub returns : goal.returns
returns g c = λ x y bytes records start known read over. read_whole default_config g.R.Read.remaining x y (strip_bom bytes) records start known read over
