use Rattle.bsi_answers.proofs.Showing.{file_by_file_too, lines_too}
use Rattle.bsi_answers.proofs.laws.any_interleaving.Goals as goal

pub returns-clause-alike : goal.returns-clause-alike
returns-clause-alike c = λ schema a b counts records lines alike are. lines_too schema a b counts records lines alike are

pub returns-clause-order : goal.returns-clause-order
returns-clause-order c = λ files rows mix. file_by_file_too files rows mix
