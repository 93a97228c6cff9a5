use Rattle.std.proofs.Common.{◌≡◌, List, length, sym, ap, subst, ◌∙◌, arith, below_more}
use Rattle.bsi_schema.specs.Columns.{Declared}
use Rattle.bsi_ffi.specs.Columns.{input_rows}
use Rattle.bsi_rows.specs.Rows.{column_of, SourcedRow}
use Rattle.bsi_rows.specs.Table.{AreFitting}
use Rattle.bsi_ffi.proofs.ColumnInputs.{columns_many, feeders-input_rows, written-accepted, written-column, written-long}
use Rattle.bsi_ffi.proofs.InputRows.{fitting-input_rows}
use Rattle.bsi_ffi.proofs.RowsByColumn.{same_rows}
use Rattle.bsi_ffi.proofs.blocks.fill_block.Goals as goal

-- a column is written
pub write_column-requires-clause-long : goal.write_column-requires-clause-long
write_column-requires-clause-long c =
    written-long c.args.block.now.schema.columns c.args.columns.now c.requires.even c.columns.c _ (omega arith)
    c.args.feeder c.args.from c.args.count _ c.not_null_word-not_null.result (omega arith) c.requires.within c.not_null_word-not_null.ensures
    c.columns.block.rows c.columns.invariant.from

pub write_column-requires-clause-accepted : goal.write_column-requires-clause-accepted
write_column-requires-clause-accepted c =
    written-accepted c.args.block.now.schema.columns c.args.columns.now c.requires.even c.columns.c _ (omega arith)
    c.args.feeder c.args.from c.args.count _ c.not_null_word-not_null.result (omega arith) c.requires.within c.not_null_word-not_null.ensures
    c.columns.block.schema.columns (ap (λ (s : Declared). s.columns) c.columns.invariant.schema) c.requires.accepted

pub columns-preserved : goal.columns-preserved
columns-preserved c =
    let all = c.columns.invariant in
    let has = c.write_column.ensures.column in
    let rows : List SourcedRow = input_rows c.args.feeder c.args.columns.now c.args.from c.args.count in
    let new : List SourcedRow = c.write_column.new.self.rows in
    let here : column_of new c.columns.c ≡ column_of rows c.columns.c =
    has.written ∙ written-column c.args.block.now.schema.columns c.args.columns.now c.requires.even c.columns.c _ (omega arith)
    c.args.feeder c.args.from c.args.count _ c.not_null_word-not_null.result (omega arith) c.requires.within c.not_null_word-not_null.ensures in
    record {
      schema = has.schema ∙ all.schema;
      feeders = has.feeders ∙ all.feeders;
      from = has.from ∙ all.from;
      fitting = c.write_column.ensures.fitting;
      written = below_more (λ k. column_of new k ≡ column_of rows k) c.columns.c
          (λ k below. has.others k (λ same. absurd (omega (arith, same, below))) ∙ all.written k below) here;
    }

-- each column is written, so these are the rows
pub returns-clause-rows : goal.returns-clause-rows
returns-clause-rows c =
    let old = c.args.block.now in
    let now = c.columns.block in
    let all = c.columns.invariant in
    let rows : List SourcedRow = input_rows c.args.feeder c.args.columns.now c.args.from c.args.count in
    same_rows old.schema.columns now.rows rows
    (subst (λ (s : Declared). AreFitting s.columns now.rows) all.schema all.fitting)
    (fitting-input_rows old.schema.columns c.args.feeder c.args.columns.now c.args.from c.args.count (λ r before. c.requires.accepted r (omega (arith, before, c.requires.within))))
    (all.from ∙ sym (feeders-input_rows c.args.feeder c.args.columns.now c.args.from c.args.count))
    (λ k below. all.written k (omega (arith, below, columns_many (length old.schema.columns) c.args.columns.now c.requires.even, c.columns-test.false)))
