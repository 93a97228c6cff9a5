use Rattle.std.proofs.Common.{◌≤◌, length}
use Rattle.bsi_aggregates.proofs.TalliedGroups.{AreTallied}
use Rattle.bsi_aggregates.proofs.tallies.group_by_tally.Given as goal

-- the groups of the tallies so far
abbrev pub invariant-tallies : goal.invariant-tallies
invariant-tallies l = record {
  are : AreTallied l.total l.selection.bits l.by l.index.rows l.offset l.size l.tallies.items l.k l.groups.items;
  few : length l.groups.items ≤ l.most;
}
