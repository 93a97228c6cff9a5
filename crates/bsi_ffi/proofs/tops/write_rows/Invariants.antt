use Rattle.std.proofs.Common.{◌≡◌, drop, length, take}
use Rattle.std.specs.List.{AllZip}
use Rattle.bsi_ffi.specs.Tops.{IsWrittenRow}
use Rattle.bsi_ffi.proofs.tops.write_rows.Given as goal

-- the rows so far are written
abbrev pub invariant-rows : goal.invariant-rows
invariant-rows l = record {
  long : length l.rows ≡ length l.initial.rows;
  done : AllZip IsWrittenRow (take l.at l.listed) (take l.at l.rows);
  rest : drop l.at l.rows ≡ drop l.at l.initial.rows;
}
