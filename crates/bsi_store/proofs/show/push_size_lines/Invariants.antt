use Rattle.std.proofs.Common.{◌≡◌, ◌++◌, length, take}
use Rattle.bsi_store.specs.Lines.{size_lines}
use Rattle.bsi_store.proofs.show.push_size_lines.Given as goal

-- the lines of the columns so far
abbrev pub invariant-columns : goal.invariant-columns
invariant-columns l = l.text.items ≡ l.initial.text.items ++ size_lines (length l.index.rows) (take l.c l.index.schema.columns)
