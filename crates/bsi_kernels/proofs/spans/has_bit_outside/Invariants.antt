use Rattle.std.specs.Prelude.{bit_and}
use Rattle.std.specs.Int.{bit_not, w64}
use Rattle.bsi_kernels.proofs.SpanRows.{IsSeen}
use Rattle.bsi_kernels.proofs.spans.has_bit_outside.Given as goal

-- whether a word so far has such a row
abbrev pub invariant-words : goal.invariant-words
invariant-words l = IsSeen (λ x y. bit_and x (bit_not w64 y)) l.span l.others l.i l.seen
