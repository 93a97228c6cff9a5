use Rattle.bsi_input.proofs.Joining.{taken_both}
use Rattle.bsi_input.proofs.laws.rows_by_calls.Goals as goal

pub returns : goal.returns
returns g c = λ layout a b c start middle end xs ys one two. taken_both g.R.Read.remaining layout a b c start middle end xs ys one two
