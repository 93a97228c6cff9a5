use Rattle.bsi_digits.proofs.laws.refusals_are_complete.Goals as goal
use Rattle.bsi_digits.proofs.Refusals.{IsBaseList-from_refusal, refusal-from_base_list}

pub returns : goal.returns
returns c = λ bs. (IsBaseList-from_refusal bs, refusal-from_base_list bs)
