use Rattle.bsi_digits.proofs.laws.values_compare_by_digits.Goals as goal
use Rattle.bsi_digits.proofs.Comparing.{slice_cmp-digits_of}

pub returns : goal.returns
returns c = λ bs u v valid small other. slice_cmp-digits_of bs u v small other
