use Rattle.std.proofs.Common.{◌-◌, ◌≤◌, length}
use Rattle.std.specs.Vec.{vec_capacity}
use Rattle.bsi_input.specs.Sources.{counts_of, layout_by}
use Rattle.bsi_input.proofs.Filling.{ArePut}
use Rattle.bsi_input.proofs.rows.put_rows.Given as goal

-- the rows of the good records so far stand in the block, and there is room for the entries of one more
abbrev pub invariant-records : goal.invariant-records
invariant-records g l = record {
  put : ArePut (g.R.Read.remaining) (layout_by g.F.RowFormat.format l.fn.layout) l.initial.input l.input (counts_of l.initial.read_so_far l.initial.bad) (counts_of l.read_so_far l.bad) l.feeder l.initial.block l.block;
  wide : length (g.F.RowFormat.format l.fn.layout.format).schema.columns ≤ vec_capacity l.entries;
}

abbrev pub decreases-records : goal.decreases-records
decreases-records g l = (g.F.RowFormat.format l.fn.layout.format).most - l.read_so_far
