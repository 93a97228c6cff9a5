-- The right total of the rows of a selection (`IsTotalAt`), and which totals need no memory.
use Rattle.std.specs.Prelude.{◌≡◌, ℕ, ℤ, Bool, List, count_by}
use Rattle.bsi_bits.specs.BitList.{set_positions}
use Rattle.bsi_digits.specs.Orders.{values_at}
use Rattle.bsi_digits.specs.Ranks.{IsSignedRankOf}
use Rattle.bsi_digits.specs.WholeNumbers.{signed_sum, IsSignedLeastOf, IsSignedGreatestOf, IsSignedMedianOf}
use Rattle.bsi_rows.specs.Answers.{IsRows, IsValue}
use Rattle.bsi_rows.specs.Numbering.{numbered_at}
use Rattle.bsi_rows.specs.Rows.{column_of, feeders_of, SourcedRow}
use Rattle.bsi_rows.specs.declared.query.Answer.{Answer}
use Rattle.bsi_rows.specs.declared.query.Answer.TheVariants.{Count as count_answer, Sum as sum_answer}
use Rattle.bsi_rows.specs.declared.query.Total.{Total}
use Rattle.bsi_rows.specs.declared.query.Total.TheVariants.{Count, Sum, Least, Greatest, Median, Rank, Rows}

-- the numbers of column c at the rows of a selection, in order, without the nulls
abbrev pub numbers_at : List Bool → ℕ → List SourcedRow → List ℤ
numbers_at selection c rows = values_at selection (column_of rows c)

-- the answer is the total of the rows of a selection
abbrev pub IsTotalAt : Total → List Bool → List SourcedRow → Answer → Type 0
IsTotalAt Count selection rows answer = answer ≡ count_answer (count_by (λ b. b) selection)
IsTotalAt (Sum c) selection rows answer = answer ≡ sum_answer (signed_sum (numbers_at selection c rows))
IsTotalAt (Least c) selection rows answer = IsValue (IsSignedLeastOf (numbers_at selection c rows)) answer
IsTotalAt (Greatest c) selection rows answer = IsValue (IsSignedGreatestOf (numbers_at selection c rows)) answer
IsTotalAt (Median c) selection rows answer = IsValue (IsSignedMedianOf (numbers_at selection c rows)) answer
IsTotalAt (Rank c rank) selection rows answer = IsValue (IsSignedRankOf rank (numbers_at selection c rows)) answer
IsTotalAt Rows selection rows answer = IsRows (numbered_at (feeders_of rows) (set_positions selection)) answer

-- the total is computed without memory
abbrev pub NeedsNoMemory : Total → Type 0
NeedsNoMemory Count = Unit {0}
NeedsNoMemory (Sum c) = Unit {0}
NeedsNoMemory (Least c) = Unit {0}
NeedsNoMemory (Greatest c) = Unit {0}
NeedsNoMemory (Median c) = ⊥
NeedsNoMemory (Rank c rank) = ⊥
NeedsNoMemory Rows = ⊥
