use Rattle.std.proofs.Common.{◌≡◌, ◌++◌, drop}
use Rattle.std.specs.Io.{StartsWith}
use Rattle.bsi_syntax.specs.Lines.{rows_text}
use Rattle.bsi_syntax.proofs.lines.write_each_row.Given as goal

-- the rows that are left make up the text
abbrev pub invariant-rows : goal.invariant-rows
invariant-rows l = record {
  written : l.line.items ++ rows_text (drop l.row-index l.rows) ≡ l.initial.line.items ++ rows_text l.rows;
  begins : StartsWith l.line.items l.initial.line.items;
}
