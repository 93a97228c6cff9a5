use Rattle.std.proofs.Common.{◌≡◌, ◌≤◌, length}
use Rattle.bsi_aggregates.proofs.GroupsMade.{AreGroupsMade}
use Rattle.bsi_aggregates.proofs.grouping.+group_selection.Given as goal

-- one column fewer is left
abbrev pub decreases-group_selection : goal.decreases-group_selection
decreases-group_selection l = length l.by.now

-- the groups so far, and the rows that are left
abbrev pub invariant-entries : goal.invariant-entries
invariant-entries l = record {
  made : AreGroupsMade l.total l.fn.selection.bits l.first l.others l.index.rows l.groups.groups l.rest.bits;
  columns : l.groups.columns ≡ length l.by;
  count : l.counter ≤ length l.groups.groups;
  few : length l.groups.groups ≤ l.most;
  same : length l.rest.bits ≡ length l.index.rows;
}
