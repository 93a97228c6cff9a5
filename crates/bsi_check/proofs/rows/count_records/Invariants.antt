use Rattle.std.proofs.Common.{◌-◌}
use Rattle.bsi_input.specs.Sources.{layout_by}
use Rattle.bsi_check.specs.Reasons.{AddsFirstReasons}
use Rattle.bsi_check.proofs.Counting.{AreCounted}
use Rattle.bsi_check.proofs.rows.count_records.Given as goal

-- the records so far were counted, and the bad ones reported
abbrev pub invariant-records : goal.invariant-records
invariant-records g l = record {
  counted : AreCounted (g.I.Read.remaining) (layout_by g.F.RowFormat.format l.fn.layout) l.initial.input l.input l.records l.bad;
  reported : AddsFirstReasons l.path l.bad l.initial.reasons.items l.reasons.items;
}

abbrev pub decreases-records : goal.decreases-records
decreases-records g l = l.most - l.records
