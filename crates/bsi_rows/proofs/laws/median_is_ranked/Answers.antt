use Rattle.bsi_rows.proofs.Ranks.{middle_is_median, median_is_middle}
use Rattle.bsi_rows.proofs.laws.median_is_ranked.Goals as goal

pub returns : goal.returns
returns c = λ numbers answer. (median_is_middle numbers answer, middle_is_median numbers answer)
