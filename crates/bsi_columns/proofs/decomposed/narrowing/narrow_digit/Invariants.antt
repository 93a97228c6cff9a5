use Rattle.std.proofs.Common.{◌*◌, ◌||◌}
use Rattle.bsi_columns.specs.DigitTests.{relates_step}
use Rattle.bsi_columns.proofs.SpanChunks.{IsSteppedTo}
use Rattle.bsi_columns.proofs.decomposed.narrowing.narrow_digit.Given as goal

abbrev pub invariant-chunks : goal.invariant-chunks
invariant-chunks g l = IsSteppedTo (64 * l.k) (λ low v. relates_step l.relation (l.is_lowest || low) v l.digit) (g.E.Encoding.digits l.component) l.at l.fn.span l.span
