use Rattle.bsi_input.proofs.Left.{first_rows, rest_of_rows, whole_rows}
use Rattle.bsi_input.proofs.Left as left
use Rattle.bsi_input.proofs.laws.first_of_left.Goals as goal

pub returns-clause-first : goal.returns-clause-first
returns-clause-first g c = λ layout a b start end xs rows n read_so_far has. first_rows g.R.Read.remaining layout a b start end xs rows n read_so_far has

pub returns-clause-without_last : goal.returns-clause-without_last
returns-clause-without_last g c = λ layout a b start end xs last rows n read_so_far has. left.without_last g.R.Read.remaining layout a b start end xs last rows n read_so_far has

pub returns-clause-all : goal.returns-clause-all
returns-clause-all g c = λ layout a b start end xs rows n read_so_far over has. whole_rows g.R.Read.remaining layout a b start end xs rows n read_so_far over has

pub returns-clause-rest : goal.returns-clause-rest
returns-clause-rest g c = λ layout a b start end xs ys n there read_so_far has. rest_of_rows g.R.Read.remaining layout a b start end xs ys n there read_so_far has
