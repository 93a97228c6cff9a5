-- The total of a selection that has the rows of a predicate is the total of these rows.
use Rattle.std.proofs.Common.{◌≡◌, ℕ, [], List, map, subst, sym, ap, ◌∙◌}
use Rattle.bsi_digits.specs.Ranks.{IsSignedRankOf}
use Rattle.bsi_digits.specs.WholeNumbers.{signed_sum, IsSignedLeastOf, IsSignedGreatestOf, IsSignedMedianOf}
use Rattle.bsi_rows.specs.Answers.{IsRows, IsTotal, IsValue}
use Rattle.bsi_rows.specs.Numbering.{numbered_at}
use Rattle.bsi_rows.specs.Rows.{entry_at, feeders_of, holds, values, SourcedRow}
use Rattle.bsi_rows.specs.declared.query.Answer.{Answer}
use Rattle.bsi_rows.specs.declared.query.Answer.TheVariants.{Count as count_answer, Sum as sum_answer}
use Rattle.bsi_rows.specs.declared.query.Pred.{Pred}
use Rattle.bsi_rows.specs.declared.query.Total.{Total}
use Rattle.bsi_rows.specs.declared.query.Total.TheVariants.{Count, Sum, Least, Greatest, Median, Rank, Rows}
use Rattle.bsi_table.specs.Totals.{numbers_at, IsTotalAt}
use Rattle.bsi_table.proofs.Selections.{length-places, set_positions-map, values-places}

module _ (pred : Pred) (rows : List SourcedRow) where
  numbers : (c : ℕ) → numbers_at (map (λ row. holds pred row.1) rows) c rows ≡ values c pred rows
  numbers c = values-places (0, []) (λ row. holds pred row.1) (λ row. entry_at row.1 c) rows

  pub total_selected : (total : Total) (answer : Answer) → IsTotalAt total (map (λ row. holds pred row.1) rows) rows answer → IsTotal total pred rows answer
  total_selected Count answer is = is ∙ ap count_answer (sym (length-places (0, []) (λ row. holds pred row.1) rows))
  total_selected (Sum c) answer is = is ∙ ap (λ ns. sum_answer (signed_sum ns)) (numbers c)
  total_selected (Least c) answer is = subst (λ ns. IsValue (IsSignedLeastOf ns) answer) (numbers c) is
  total_selected (Greatest c) answer is = subst (λ ns. IsValue (IsSignedGreatestOf ns) answer) (numbers c) is
  total_selected (Median c) answer is = subst (λ ns. IsValue (IsSignedMedianOf ns) answer) (numbers c) is
  total_selected (Rank c rank) answer is = subst (λ ns. IsValue (IsSignedRankOf rank ns) answer) (numbers c) is
  total_selected Rows answer is = subst (λ places. IsRows (numbered_at (feeders_of rows) places) answer) (set_positions-map (0, []) (λ row. holds pred row.1) rows) is
