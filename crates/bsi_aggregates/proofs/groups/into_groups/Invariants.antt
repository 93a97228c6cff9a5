use Rattle.std.proofs.Common.{◌≡◌, map}
use Rattle.bsi_aggregates.specs.Groups.{as_group}
use Rattle.bsi_aggregates.proofs.groups.into_groups.Given as goal

-- the groups so far are added
abbrev pub invariant-groups : goal.invariant-groups
invariant-groups l = record {
  columns : l.groups.columns ≡ 1;
  groups : l.groups.groups ≡ map as_group l.yielded;
}
