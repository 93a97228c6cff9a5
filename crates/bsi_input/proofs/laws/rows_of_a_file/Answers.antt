use Rattle.bsi_input.proofs.Joining.{is_whole}
use Rattle.bsi_input.proofs.laws.rows_of_a_file.Goals as goal

pub returns : goal.returns
returns g c = λ layout a b text start end rows stands read_so_far over. is_whole g.R.Read.remaining layout a b text start end rows stands read_so_far over
