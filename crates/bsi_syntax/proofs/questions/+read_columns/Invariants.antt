use Rattle.std.proofs.Common.{length}
use Rattle.bsi_syntax.proofs.questions.+read_columns.Given as goal

abbrev pub decreases-read_columns : goal.decreases-read_columns
decreases-read_columns g l = length l.fields.now
