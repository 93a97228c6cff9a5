use Rattle.std.proofs.Common.{◌+◌, ◌*◌, None, length, get_or}
use Rattle.std.specs.Prelude.{min}
use Rattle.bsi_slices.specs.Related.{compares_entries}
use Rattle.bsi_slices.specs.Spans.{IsIntersected}
use Rattle.bsi_columns.proofs.decomposed.Decomposed.and_compare_columns.Given as goal

-- the blocks so far are kept
abbrev pub invariant-blocks-2 : goal.invariant-blocks-2
invariant-blocks-2 g l =
    IsIntersected (λ r. compares_entries l.comparison (get_or l.self.entries (64 * l.at + r) None) (get_or l.other.entries (64 * l.at + r) None)) 0 (min (512 * l.k) (length l.fn.span)) l.fn.span l.span
