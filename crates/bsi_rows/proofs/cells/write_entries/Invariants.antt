use Rattle.std.proofs.Common.{◌≡◌, ◌≢◌, ℕ, ◌<◌, ◌≤◌, get_or, length}
use Rattle.bsi_rows.specs.RowBlocks.{max_block_rows, IsSameCell, IsWrittenEntry}
use Rattle.bsi_rows.specs.Rows.{entry_at}
use Rattle.bsi_rows.proofs.cells.write_entries.Given as goal

-- the entries of the columns so far are written, and nothing else
abbrev pub invariant-columns : goal.invariant-columns
invariant-columns l = record {
  long : length l.numbers ≡ length l.initial.numbers;
  words : length l.not_null ≡ length l.initial.not_null;
  written : (k : ℕ) → k < l.c → IsWrittenEntry l.limits l.numbers l.not_null k l.r (entry_at l.entries k);
  later : (k : ℕ) → l.c ≤ k → get_or l.not_null k 0 ≡ get_or l.initial.not_null k 0;
  other_rows : (k s : ℕ) → s < max_block_rows → s ≢ l.r → IsSameCell l.initial.numbers l.initial.not_null l.numbers l.not_null k s;
}
