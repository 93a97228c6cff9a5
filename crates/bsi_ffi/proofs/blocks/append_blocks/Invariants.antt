use Rattle.std.proofs.Common.{◌≡◌, ◌*◌, length, replicate}
use Rattle.std.specs.Prelude.{min}
use Rattle.bsi_rows.specs.RowBlocks.{max_block_rows}
use Rattle.bsi_rows.specs.Rows.{feeders_of}
use Rattle.bsi_table.specs.Index.{table_of}
use Rattle.bsi_ffi.specs.Calls.{with_first}
use Rattle.bsi_ffi.proofs.blocks.append_blocks.Given as goal

-- the blocks so far stand in the index
abbrev pub invariant-parts : goal.invariant-parts
invariant-parts l = record {
  done : l.appended ≡ min (max_block_rows * l.k) l.rows;
  rows : table_of l.index ≡ with_first (table_of l.initial.index) l.feeder l.columns l.appended;
  schema : l.block.schema ≡ l.initial.index.schema;
  feeders : l.block.feeders ≡ l.initial.index.feeders;
  from : feeders_of l.block.rows ≡ replicate (length l.block.rows) l.feeder;
}
