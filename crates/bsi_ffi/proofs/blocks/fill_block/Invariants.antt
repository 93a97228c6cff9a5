use Rattle.std.proofs.Common.{◌≡◌, ℕ, ◌<◌, replicate}
use Rattle.bsi_rows.specs.Rows.{column_of, feeders_of}
use Rattle.bsi_rows.specs.Table.{AreFitting}
use Rattle.bsi_ffi.specs.Columns.{input_rows}
use Rattle.bsi_ffi.proofs.blocks.fill_block.Given as goal

-- the columns so far
abbrev pub invariant-columns : goal.invariant-columns
invariant-columns l = record {
  schema : l.block.schema ≡ l.fn.block.schema;
  feeders : l.block.feeders ≡ l.fn.block.feeders;
  from : feeders_of l.block.rows ≡ replicate l.count l.feeder;
  fitting : AreFitting l.block.schema.columns l.block.rows;
  written : (k : ℕ) → k < l.c → column_of l.block.rows k ≡ column_of (input_rows l.feeder l.columns l.from l.count) k;
}
