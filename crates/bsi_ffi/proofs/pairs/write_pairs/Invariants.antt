use Rattle.std.proofs.Common.{◌≡◌, drop, length, take}
use Rattle.std.specs.List.{AllZip}
use Rattle.bsi_ffi.specs.Pairs.{IsFlatPair}
use Rattle.bsi_ffi.proofs.pairs.write_pairs.Given as goal

-- the groups so far are written
abbrev pub invariant-pairs : goal.invariant-pairs
invariant-pairs l = record {
  long : length l.pairs ≡ length l.initial.pairs;
  done : AllZip IsFlatPair (take l.at l.made.groups) (take l.at l.pairs);
  rest : drop l.at l.pairs ≡ drop l.at l.initial.pairs;
}
