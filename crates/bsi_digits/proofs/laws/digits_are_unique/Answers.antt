use Rattle.bsi_digits.proofs.laws.digits_are_unique.Goals as goal
use Rattle.bsi_digits.proofs.DigitLists.{IsDigits-digits_of, same_digits}

pub returns-clause-exist : goal.returns-clause-exist
returns-clause-exist c = IsDigits-digits_of

pub returns-clause-unique : goal.returns-clause-unique
returns-clause-unique c = λ bs ds v digits. same_digits bs ds v digits.count digits.below digits.total
