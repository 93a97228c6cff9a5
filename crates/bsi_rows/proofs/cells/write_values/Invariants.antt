use Rattle.std.proofs.Common.{◌≡◌, ◌≢◌, ℕ, ◌+◌, ◌*◌, ◌<◌, get_or, length}
use Rattle.bsi_rows.specs.RowBlocks.{max_block_rows, IsValueAt}
use Rattle.bsi_rows.proofs.cells.write_values.Given as goal

-- the values so far are written, and nothing in another column
abbrev pub invariant-rows : goal.invariant-rows
invariant-rows l = record {
  long : length l.numbers ≡ length l.initial.numbers;
  written : (k : ℕ) → k < l.r → IsValueAt l.limits l.values l.not_null l.numbers l.c k;
  others : (k s : ℕ) → k ≢ l.c → s < max_block_rows → get_or l.numbers (max_block_rows * k + s) 0 ≡ get_or l.initial.numbers (max_block_rows * k + s) 0;
}
