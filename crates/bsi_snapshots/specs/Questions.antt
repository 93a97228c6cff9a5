-- The reply to an analyst's query: that of a table of given rows, or the refusal `Gone`.
use Rattle.std.specs.Prelude.{Result, Ok, Err}
use Rattle.bsi_rows.specs.declared.query.Answer.{Answer}
use Rattle.bsi_rows.specs.declared.query.Query.{Query}
use Rattle.bsi_rows.specs.Answers.{IsReply}
use Rattle.bsi_schema.specs.Columns.{Declared}
use Rattle.bsi_snapshots.specs.History.{RowList}
use Rattle.bsi_snapshots.specs.declared.analyst.AnalystRefused.{AnalystRefused}
use Rattle.bsi_snapshots.specs.declared.analyst.AnalystRefused.TheVariants.{Gone, Ask}

-- The reply of a table with these rows, or the refusal of an analyst who gets no copy of the index.
abbrev pub IsAnalystReply : Declared → RowList → Query → Result Answer AnalystRefused → Type 0
IsAnalystReply schema rows query (Ok answer) = IsReply schema rows query (Ok answer)
IsAnalystReply schema rows query (Err Gone) = Unit {0}
IsAnalystReply schema rows query (Err (Ask refused)) = IsReply schema rows query (Err refused)
