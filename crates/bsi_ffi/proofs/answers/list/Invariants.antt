use Rattle.std.proofs.Common.{◌≡◌, drop, length, take}
use Rattle.bsi_ffi.specs.Calls.{as_pairs}
use Rattle.bsi_ffi.proofs.answers.list.Given as goal

-- the rows so far are written
abbrev pub invariant-rows : goal.invariant-rows
invariant-rows l = record {
  long : length l.origins ≡ length l.initial.origins;
  done : as_pairs (take l.at l.origins) ≡ take l.at l.rows;
  rest : drop l.at l.origins ≡ drop l.at l.initial.origins;
}
