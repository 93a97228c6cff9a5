use Rattle.bsi_check.proofs.Judging.{begins_same}
use Rattle.bsi_check.proofs.diagnostics.quoting.add_line_ends.Goals as goal

pub returns-then-inside-eq0 : goal.returns-then-inside-eq0
returns-then-inside-eq0 c = begins_same _
