use Rattle.std.proofs.Common.{◌≡◌, ◌*◌, ◌<◌, ◌≤◌, length}
use Rattle.bsi_rows.specs.RowBlocks.{entries_of, max_block_rows}
use Rattle.bsi_files.proofs.Feeds.{HasPassed}
use Rattle.bsi_files.proofs.feeding.fill_batch.Given as goal

-- the batch has the next rows of the source, some of each block
abbrev pub invariant-fills : goal.invariant-fills
invariant-fills g l = record {
  block : (l.block.schema ≡ l.initial.block.schema) × (l.block.feeders ≡ 1);
  batch : (l.batch.schema ≡ l.initial.batch.schema) × (l.batch.feeders ≡ 1);
  few : length l.batch.rows ≤ max_block_rows * l.counter;
  some : l.counter ≤ length l.batch.rows;
  passed : HasPassed g.F.RowFormat.format g.I.Read.remaining l.initial.source l.source (entries_of l.batch.rows);
  start : length l.batch.rows ≡ 0 → l.source ≡ l.initial.source;
  read_so_far : 0 < length l.batch.rows → l.source.counts.read_so_far ≤ (g.F.RowFormat.format l.source.layout.format).most;
}
