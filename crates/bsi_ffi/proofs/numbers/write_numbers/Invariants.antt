use Rattle.std.proofs.Common.{◌≡◌, drop, length, take}
use Rattle.std.specs.List.{AllZip}
use Rattle.bsi_ffi.specs.Pairs.{IsFlatEntry}
use Rattle.bsi_ffi.proofs.numbers.write_numbers.Given as goal

-- the numbers so far are written
abbrev pub invariant-numbers : goal.invariant-numbers
invariant-numbers l = record {
  long : length l.numbers ≡ length l.initial.numbers;
  done : AllZip IsFlatEntry (take l.at l.made) (take l.at l.numbers);
  rest : drop l.at l.numbers ≡ drop l.at l.initial.numbers;
}
