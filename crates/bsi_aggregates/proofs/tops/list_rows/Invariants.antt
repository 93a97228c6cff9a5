use Rattle.std.proofs.Common.{◌≡◌, ◌≤◌, ◌+◌, ◌++◌, length, take}
use Rattle.bsi_bits.specs.BitList.{set_positions}
use Rattle.bsi_shift.specs.Shifted.{shifted_entries}
use Rattle.bsi_aggregates.specs.Tops.{rows_at, IsReadBlock}
use Rattle.bsi_aggregates.proofs.tops.list_rows.Given as goal

-- the rows that were yielded are listed
abbrev pub invariant-rows : goal.invariant-rows
invariant-rows l = record {
  listed : l.listed.items ≡ l.fn.listed.items ++ rows_at (shifted_entries l.column) (take (length l.yielded) (set_positions l.selection.bits));
  count : length l.listed.items ≡ length l.fn.listed.items + length l.yielded;
  few : length l.listed.items ≤ l.most;
  read : IsReadBlock (shifted_entries l.column) l.block.at l.block.numbers;
}
