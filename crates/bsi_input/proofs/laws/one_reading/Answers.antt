use Rattle.csv.specs.Reading.{default_config, strip_bom}
use Rattle.csv.specs.declared.parser.State.TheVariants as st
use Rattle.bsi_input.proofs.AllRecords as texts
use Rattle.bsi_input.proofs.laws.one_reading.Goals as goal

pub returns : goal.returns
returns c = λ bytes a b all_a all_b. texts.one_reading default_config st.StartRecord (strip_bom bytes) a b all_a all_b
