use Rattle.std.proofs.Common.{◌≡◌, drop, length, take}
use Rattle.std.specs.List.{AllZip}
use Rattle.bsi_ffi.specs.Groups.{IsFlatGroup}
use Rattle.bsi_ffi.proofs.groups.write_groups.Given as goal

-- the groups so far are written
abbrev pub invariant-groups : goal.invariant-groups
invariant-groups l = record {
  long : length l.groups ≡ length l.initial.groups;
  done : AllZip IsFlatGroup (take l.at l.made.groups) (take l.at l.groups);
  rest : drop l.at l.groups ≡ drop l.at l.initial.groups;
}
