use Rattle.std.proofs.Common.{◌≡◌, ℕ, ◌+◌, ◌*◌, ◌<◌, ◌≤◌, get_or, length}
use Rattle.bsi_rows.specs.RowBlocks.{max_block_rows}
use Rattle.bsi_rows.proofs.cells.write_nulls.Given as goal

-- the columns so far have a 0 in these places, and no other place changes
abbrev pub invariant-columns : goal.invariant-columns
invariant-columns l = record {
  long : length l.numbers ≡ length l.initial.numbers;
  zero : (k r : ℕ) → k < l.c → l.from ≤ r → r < l.end → get_or l.numbers (max_block_rows * k + r) 0 ≡ 0;
  others : (k r : ℕ) → r < l.from → get_or l.numbers (max_block_rows * k + r) 0 ≡ get_or l.initial.numbers (max_block_rows * k + r) 0;
}
