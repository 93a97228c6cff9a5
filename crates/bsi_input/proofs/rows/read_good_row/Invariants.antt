use Rattle.std.proofs.Common.{◌-◌}
use Rattle.bsi_input.specs.Sources.{counts_of, layout_by}
use Rattle.bsi_input.proofs.Taking.{AreTaken}
use Rattle.bsi_input.proofs.rows.read_good_row.Given as goal

-- all records so far were bad
abbrev pub invariant-records : goal.invariant-records
invariant-records g l =
    AreTaken (g.R.Read.remaining) (layout_by g.F.RowFormat.format l.fn.layout) l.initial.input l.input (counts_of l.initial.read_so_far l.initial.bad) (counts_of l.read_so_far l.bad)

abbrev pub decreases-records : goal.decreases-records
decreases-records g l = l.most - l.read_so_far
