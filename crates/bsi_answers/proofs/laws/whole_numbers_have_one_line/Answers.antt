use Rattle.bsi_answers.proofs.WholeNumbers.{its_line, only_line}
use Rattle.bsi_answers.proofs.laws.whole_numbers_have_one_line.Goals as goal

pub returns : goal.returns
returns c = λ feeders asked reply line. (only_line feeders asked reply line, its_line feeders asked reply line)
