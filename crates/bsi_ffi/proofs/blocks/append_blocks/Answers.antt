use Rattle.std.proofs.Common.{◌≡◌, ◌<◌, ◌*◌, true, length, replicate, refl, sym, ap, ◌∙◌, arith, subst}
use Rattle.bsi_rows.specs.RowBlocks.{RowBlock}
use Rattle.bsi_rows.specs.Rows.{feeders_of}
use Rattle.bsi_rows.specs.Table.{with_rows, Table}
use Rattle.bsi_table.specs.Index.{table_of}
use Rattle.bsi_ffi.specs.Columns.{are_columns, input_rows, row_count, AreAccepted}
use Rattle.bsi_ffi.proofs.InputRows.{with_block, with_none}
use Rattle.bsi_ffi.proofs.blocks.append_blocks.Goals as goal

pub parts-init : goal.parts-init
parts-init c = record {
  done = omega arith;
  rows = sym (with_none (table_of c.args.index.now) c.args.feeder c.args.columns.now);
  schema = ap (λ (b : RowBlock). b.schema) c.in_ok-block.ensures;
  feeders = ap (λ (b : RowBlock). b.feeders) c.in_ok-block.ensures;
  from = subst (λ (b : RowBlock). feeders_of b.rows ≡ replicate (length b.rows) c.args.feeder) (sym c.in_ok-block.ensures) refl;
}

-- no memory for the block: nothing was appended
pub returns-in_err-block-clause-rows : goal.returns-in_err-block-clause-rows
returns-in_err-block-clause-rows c = sym (with_none (table_of c.args.index.now) c.args.feeder c.args.columns.now)

-- the blocks so far change the rows alone
pub append_block-requires-clause-fed : goal.append_block-requires-clause-fed
append_block-requires-clause-fed c =
    subst (λ (t : Table). c.args.feeder < t.feeders) (sym c.parts.invariant.rows) c.requires.fed

pub append_block-requires-clause-even : goal.append_block-requires-clause-even
append_block-requires-clause-even c =
    subst (λ (t : Table). are_columns (length t.schema.columns) c.args.columns.now ≡ true) (sym c.parts.invariant.rows) c.requires.even

pub append_block-requires-clause-accepted : goal.append_block-requires-clause-accepted
append_block-requires-clause-accepted c =
    subst (λ (t : Table). AreAccepted t.schema.columns c.args.columns.now (row_count c.args.columns.now)) (sym c.parts.invariant.rows) c.requires.accepted

pub parts-preserved : goal.parts-preserved
parts-preserved c =
    let before : c.parts.appended ≡ 64 * c.parts.k = omega (arith, c.parts.invariant.done, c.parts-test.true, c.div_ceil-k-end.ensures) in
    record {
      done = omega (arith, c.min-count.ensures, c.parts-test.true, c.div_ceil-k-end.ensures);
      rows = with_block (table_of c.args.index.now) (table_of c.parts.index) (table_of c.append_block.new.index) c.args.feeder c.args.columns.now (64 * c.parts.k) c.min-count.result _
          (c.parts.invariant.rows ∙ ap (λ n. with_rows (table_of c.args.index.now) (input_rows c.args.feeder c.args.columns.now 0 n)) before)
          c.in_ok-append_block.ensures.appended (omega arith);
      schema = c.append_block.ensures.schema ∙ c.parts.invariant.schema;
      feeders = c.append_block.ensures.feeders ∙ c.parts.invariant.feeders;
      from = c.append_block.ensures.from;
    }

-- there is no row
pub returns-then-rows-eq0-clause-rows : goal.returns-then-rows-eq0-clause-rows
returns-then-rows-eq0-clause-rows c = sym (with_none (table_of c.args.index.now) c.args.feeder c.args.columns.now)
