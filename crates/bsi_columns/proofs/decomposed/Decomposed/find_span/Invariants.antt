use Rattle.bsi_columns.proofs.SpanAnswers.{IsNarrowed}
use Rattle.bsi_columns.proofs.decomposed.Decomposed.find_span.Given as goal

abbrev pub invariant-loop-i : goal.invariant-loop-i
invariant-loop-i g l = IsNarrowed l.self.bases l.test.relation l.test.constant l.self.entries l.at l.i l.span
