-- The right answer to a query (`IsAnswer`), and the reply: the answer, or the first missing column (`IsReply`).
use Rattle.std.specs.Prelude.{◌≡◌, ℕ, List, [], ◌∷◌, ◌++◌, Option, Some, None, Result, Ok, Err, length, find, nat_le, ℤ}
use Rattle.bsi_rows.specs.Numbering.{numbered_at, Origin}
use Rattle.bsi_digits.specs.Ranks.{IsSignedRankOf}
use Rattle.bsi_digits.specs.WholeNumbers.{signed_sum, IsSignedLeastOf, IsSignedGreatestOf, IsSignedMedianOf}
use Rattle.bsi_rows.specs.declared.errors.AskError.{AskError}
use Rattle.bsi_rows.specs.declared.errors.AskError.TheVariants.{BadColumn, NoMemory}
use Rattle.bsi_rows.specs.declared.query.Answer.{Answer}
use Rattle.bsi_rows.specs.declared.query.Answer.TheVariants.{Count as count_answer, Sum as sum_answer, Value as value_answer, Rows as rows_answer}
use Rattle.bsi_rows.specs.declared.query.Pred.{Pred, All, Compare, Columns, Null, Both', Either', Not'}
use Rattle.bsi_rows.specs.declared.query.Query.{Query}
use Rattle.bsi_rows.specs.declared.query.Total.{Total}
use Rattle.bsi_rows.specs.declared.query.Total.TheVariants.{Count, Sum, Least, Greatest, Median, Rank, Rows}
use Rattle.bsi_schema.specs.Columns.{Declared}
use Rattle.bsi_rows.specs.Rows.{SourcedRow, feeders_of, selected, values}

-- the answer is a number or none, as `Is` describes
abbrev pub IsValue : (Option ℤ → Type 0) → Answer → Type 0
IsValue Is (value_answer number) = Is number
IsValue Is answer = ⊥

-- the answer is the list of the origins of rows
abbrev pub IsRows : List Origin → Answer → Type 0
IsRows places (rows_answer listed) = listed.items ≡ places
IsRows places answer = ⊥

-- the answer is the total of the rows that the predicate selects
abbrev pub IsTotal : Total → Pred → List SourcedRow → Answer → Type 0
IsTotal Count pred rows answer = answer ≡ count_answer (length (selected pred rows))
IsTotal (Sum c) pred rows answer = answer ≡ sum_answer (signed_sum (values c pred rows))
IsTotal (Least c) pred rows answer = IsValue (IsSignedLeastOf (values c pred rows)) answer
IsTotal (Greatest c) pred rows answer = IsValue (IsSignedGreatestOf (values c pred rows)) answer
IsTotal (Median c) pred rows answer = IsValue (IsSignedMedianOf (values c pred rows)) answer
IsTotal (Rank c rank) pred rows answer = IsValue (IsSignedRankOf rank (values c pred rows)) answer
IsTotal Rows pred rows answer = IsRows (numbered_at (feeders_of rows) (selected pred rows)) answer

-- the answer is that to the query
abbrev pub IsAnswer : Query → List SourcedRow → Answer → Type 0
IsAnswer query rows answer = IsTotal query.total query.pred rows answer

-- the predicate has no `or` and no `not`
abbrev pub IsConjunction : Pred → Type 0
IsConjunction All = Unit {0}
IsConjunction (Compare c op n) = Unit {0}
IsConjunction (Columns a op b) = Unit {0}
IsConjunction (Null c) = Unit {0}
IsConjunction (Both' p first q second) = IsConjunction first × IsConjunction second
IsConjunction (Either' p first q second) = ⊥
IsConjunction (Not' p pred) = ⊥

-- the query counts the rows of a conjunction, which takes no memory
abbrev pub CountsConjunction : Query → Type 0
CountsConjunction query = (query.total ≡ Count) × IsConjunction query.pred

-- the columns that a total reads
abbrev pub columns_of_total : Total → List ℕ
columns_of_total Count = []
columns_of_total (Sum c) = c ∷ []
columns_of_total (Least c) = c ∷ []
columns_of_total (Greatest c) = c ∷ []
columns_of_total (Median c) = c ∷ []
columns_of_total (Rank c rank) = c ∷ []
columns_of_total Rows = []

-- the columns that a predicate reads, from left to right
abbrev pub columns_of_pred : Pred → List ℕ
columns_of_pred All = []
columns_of_pred (Compare c op n) = c ∷ []
columns_of_pred (Columns a op b) = a ∷ b ∷ []
columns_of_pred (Null c) = c ∷ []
columns_of_pred (Both' p first q second) = columns_of_pred first ++ columns_of_pred second
columns_of_pred (Either' p first q second) = columns_of_pred first ++ columns_of_pred second
columns_of_pred (Not' p pred) = columns_of_pred pred

-- the first listed column that is not below `count`
abbrev pub missing_of : ℕ → List ℕ → Option ℕ
missing_of count columns = find (λ c. nat_le count c) columns

-- each column that a predicate reads is below `count`
abbrev pub ReadsAmong : ℕ → Pred → Type 0
ReadsAmong count pred = missing_of count (columns_of_pred pred) ≡ None

-- the first missing column of a query: that of its total, or else the first of its predicate
abbrev pub missing_column : ℕ → Query → Option ℕ
missing_column count query = missing_of count (columns_of_total query.total ++ columns_of_pred query.pred)

-- the reply to a query over rows of a schema: the first missing column; or the answer; or that memory was refused
abbrev pub IsReply : Declared → List SourcedRow → Query → Result Answer AskError → Type 0
IsReply schema rows query (Ok answer) =
    (missing_column (length schema.columns) query ≡ None) × IsAnswer query rows answer
IsReply schema rows query (Err (BadColumn c)) = missing_column (length schema.columns) query ≡ Some c
IsReply schema rows query (Err NoMemory) = missing_column (length schema.columns) query ≡ None
