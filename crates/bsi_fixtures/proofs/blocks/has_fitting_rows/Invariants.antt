use Rattle.std.proofs.Common.{◌≡◌, ℕ, ◌<◌, true}
use Rattle.bsi_schema.specs.Columns.{fits}
use Rattle.bsi_rows.specs.Rows.{row_at}
use Rattle.bsi_fixtures.proofs.blocks.has_fitting_rows.Given as goal

-- each row so far fits
abbrev pub invariant-loop-r : goal.invariant-loop-r
invariant-loop-r l = (k : ℕ) → k < l.r → fits l.schema.columns (row_at l.block.rows k).1 ≡ true
