use Rattle.std.proofs.Common.{◌+◌, ◌*◌}
use Rattle.bsi_slices.specs.Slices.{number}
use Rattle.bsi_slices.specs.Spans.{IsIntersected}
use Rattle.bsi_slices.specs.Decisions.{passes}
use Rattle.bsi_slices.proofs.slices.compare.and_test_spans.Given as goal

-- the spans so far are kept
abbrev pub invariant-span : goal.invariant-span
invariant-span g l = IsIntersected (λ r. passes l.test (number l.slices (64 * l.start + r))) l.from (l.from + g.row.N * l.k) l.fn.words l.words
