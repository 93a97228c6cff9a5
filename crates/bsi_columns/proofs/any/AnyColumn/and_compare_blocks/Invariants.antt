use Rattle.std.proofs.Common.{◌+◌, ◌*◌, None, length, get_or}
use Rattle.std.specs.Prelude.{min}
use Rattle.bsi_slices.specs.Related.{compares_entries}
use Rattle.bsi_slices.specs.Spans.{IsIntersected}
use Rattle.bsi_columns.specs.AnyColumns.{any_entries}
use Rattle.bsi_columns.proofs.any.AnyColumn.and_compare_blocks.Given as goal

-- the blocks so far are kept
abbrev pub invariant-blocks-2 : goal.invariant-blocks-2
invariant-blocks-2 l =
    IsIntersected (λ r. compares_entries l.comparison (get_or (any_entries l.self) (64 * l.at + r) None) (get_or (any_entries l.other) (64 * l.at + r) None)) 0 (min (16 * l.k) (length l.fn.span)) l.fn.span l.span
