use Rattle.bsi_input.proofs.Left.{has_left, one_list}
use Rattle.bsi_input.proofs.laws.rows_left.Goals as goal

pub returns-clause-some : goal.returns-clause-some
returns-clause-some g c = λ layout input there. has_left g.R.Read.remaining layout input there

pub returns-clause-one : goal.returns-clause-one
returns-clause-one g c = λ layout input xs ys m n one two. one_list g.R.Read.remaining layout input xs ys m n one two
