use Rattle.std.proofs.Common.{◌≡◌, ◌+◌, ◌*◌, ◌≤◌, length}
use Rattle.bsi_bits.specs.Packed.{bit_of}
use Rattle.bsi_digits.specs.Digits.{weight, product}
use Rattle.bsi_columns.specs.Extremes.{improves, number_at}
use Rattle.bsi_columns.proofs.ExtremeSpans.{IsNearest}
use Rattle.bsi_columns.proofs.decomposed.Decomposed.improve_in_span.Given as goal

-- the rows that are left of the span have the number above the component, which comes first
abbrev pub invariant-components : goal.invariant-components
invariant-components g l = record {
  nearest : IsNearest l.extreme (bit_of l.fn.span) (λ p. number_at l.self.entries (64 * l.at + p)) (64 * length l.fn.span) (weight l.bases l.i) l.number (bit_of l.span);
  small : l.number * weight l.bases l.i + weight l.bases l.i ≤ product l.bases;
  better : l.i ≡ 0 → improves l.extreme l.number l.best;
}
