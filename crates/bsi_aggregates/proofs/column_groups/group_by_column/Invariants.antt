use Rattle.std.proofs.Common.{◌≡◌, length}
use Rattle.bsi_aggregates.proofs.Grouped.{AreMade}
use Rattle.bsi_aggregates.proofs.column_groups.group_by_column.Given as goal

-- the groups so far, and the rows that are left
abbrev pub invariant-groups : goal.invariant-groups
invariant-groups l = record {
  made : AreMade l.total l.fn.selection.bits l.by l.index.rows l.groups.items l.rest.bits;
  count : length l.groups.items ≡ l.split_off;
  same : length l.rest.bits ≡ length l.index.rows;
}
