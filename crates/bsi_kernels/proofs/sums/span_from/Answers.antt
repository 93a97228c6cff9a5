use Rattle.std.proofs.Common.{inl, inr, arith}
use Rattle.std.proofs.lemmas.Bool.{cases_lt}
use Rattle.bsi_kernels.proofs.sums.span_from.Goals as goal

-- one line more
pub lines-preserved : goal.lines-preserved
lines-preserved c = record {
  forward = omega (arith, c.min-start.ensures, c.lines.invariant.forward, c.lines.invariant.within);
  within = omega (arith, c.min-start.ensures);
  clear = λ k from below. elim (cases_lt k c.lines.start) [
    | inl before ↦ c.lines.invariant.clear k from before
    | inr here ↦ c.is_line_clear.ensures c.if-is_line_clear.true k here (omega (arith, c.min-start.ensures))
  ];
}
