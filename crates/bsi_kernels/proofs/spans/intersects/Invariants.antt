use Rattle.std.specs.Prelude.{bit_and}
use Rattle.bsi_kernels.proofs.SpanRows.{IsSeen}
use Rattle.bsi_kernels.proofs.spans.intersects.Given as goal

-- whether a word so far has such a row
abbrev pub invariant-words : goal.invariant-words
invariant-words l = IsSeen bit_and l.span l.others l.i l.seen
