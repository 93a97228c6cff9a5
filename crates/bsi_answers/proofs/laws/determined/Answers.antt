use Rattle.csv.specs.Reading.{default_config, strip_bom}
use Rattle.csv.specs.declared.parser.State.TheVariants as st
use Rattle.bsi_input.proofs.AllRecords as texts
use Rattle.bsi_answers.proofs.Certain.{one_run}
use Rattle.bsi_answers.proofs.laws.determined.Goals as goal

pub returns : goal.returns
returns c = λ declared files records a b one two found_a found_b. one_run (λ bytes xs ys. texts.one_reading default_config st.StartRecord (strip_bom bytes) xs ys) declared files records a b one two found_a found_b
