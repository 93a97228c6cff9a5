use Rattle.std.proofs.Common.{◌+◌, ◌*◌, length}
use Rattle.std.specs.Prelude.{min}
use Rattle.bsi_slices.specs.Related.{compares_numbers}
use Rattle.bsi_slices.specs.Slices.{number}
use Rattle.bsi_slices.specs.Spans.{IsIntersected}
use Rattle.bsi_slices.proofs.slices.related.and_compare_columns.Given as goal

-- the blocks so far are kept
abbrev pub invariant-blocks-2 : goal.invariant-blocks-2
invariant-blocks-2 l =
    IsIntersected (λ r. compares_numbers l.comparison (number l.slices (64 * l.start + r)) (number l.others (64 * l.start + r))) 0 (min (512 * l.k) (length l.fn.words)) l.fn.words l.words
