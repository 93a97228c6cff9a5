use Rattle.bsi_input.proofs.Standing.{answered_begun, nothing_begun}
use Rattle.bsi_input.proofs.laws.begun.Goals as goal

pub returns-clause-answered : goal.returns-clause-answered
returns-clause-answered c = λ bytes before after answered. answered_begun bytes before after answered

pub returns-clause-nothing : goal.returns-clause-nothing
returns-clause-nothing c = λ bytes before. nothing_begun bytes before
