use Rattle.bsi_input.proofs.Left.{left_of_file}
use Rattle.bsi_input.proofs.laws.left_of_a_file.Goals as goal

pub returns : goal.returns
returns g c = λ layout input text rows n stands has. left_of_file g.R.Read.remaining layout input text rows n stands has
