use Rattle.std.proofs.Common.{◌≡◌, ◌++◌, ◌*◌, length, map}
use Rattle.bsi_aggregates.specs.Groups.{grouped, with_first_entry}
use Rattle.bsi_aggregates.proofs.groups.Groups.with_inner.Given as goal

-- the groups so far are added
abbrev pub invariant-groups : goal.invariant-groups
invariant-groups l = record {
  columns : l.groups.columns ≡ l.fn.self.columns;
  start : l.start ≡ l.columns * length l.yielded;
  groups : l.groups.groups ≡ l.fn.self.groups ++ map (with_first_entry l.first) (grouped l.columns l.entries.items l.yielded);
}
