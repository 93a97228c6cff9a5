use Rattle.bsi_input.proofs.Determined as runs
use Rattle.bsi_input.proofs.laws.determined.Goals as goal

pub returns : goal.returns
returns c = λ records a b run_a run_b found_a found_b. runs.determined records a b run_a.0 run_b.0 run_a.1 run_b.1 found_a found_b
