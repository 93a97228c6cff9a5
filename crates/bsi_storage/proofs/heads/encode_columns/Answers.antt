use Rattle.std.proofs.Common.{◌<◌, ◌-◌, ◌+◌, ◌++◌, length, arith, ap, ◌∙◌, sym, append_assoc}
use Rattle.bsi_rows.specs.Rows.{column_of, feeders_of}
use Rattle.bsi_schema.specs.Columns.{column_at, Declared}
use Rattle.bsi_storage.specs.Heads.{column_head, column_heads}
use Rattle.bsi_storage.specs.Saved.{columns_words, feeder_words}
use Rattle.bsi_storage.proofs.ColumnHeads.{column_behind, column_first, feeders_left, heads_more}
use Rattle.bsi_storage.proofs.heads.encode_columns.Goals as goal

pub encode_column-requires-clause-first : goal.encode_column-requires-clause-first
encode_column-requires-clause-first c =
    let schema = c.args.index.now.schema in
    let rows = c.args.index.now.rows in
    let k = c.columns.c in
    let feeders = feeder_words c.args.index.now.feeders (feeders_of rows) in
    let within : k < length schema.columns = omega (arith, c.columns-test.true, c.columns-c-end.ensures.columns, ap (λ (s : Declared). length s.columns) c.schema.ensures.schema) in
    (columns_words schema rows (k + 1) (length schema.columns - (k + 1)) ++ feeders, column_first schema rows k c.columns.rest.now feeders within c.columns.invariant.left)

pub columns-preserved : goal.columns-preserved
columns-preserved c =
    let schema = c.args.index.now.schema in
    let rows = c.args.index.now.rows in
    let k = c.columns.c in
    let feeders = feeder_words c.args.index.now.feeders (feeders_of rows) in
    let within : k < length schema.columns = omega (arith, c.columns-test.true, c.columns-c-end.ensures.columns, ap (λ (s : Declared). length s.columns) c.schema.ensures.schema) in
    record {
      heads =
          c.in_ok-behind.ensures.heads
          ∙ ap (λ ws. ws ++ column_head (column_at schema.columns k) (column_of rows k)) c.columns.invariant.heads
          ∙ append_assoc c.args.words.now.items (column_heads schema rows k) (column_head (column_at schema.columns k) (column_of rows k))
          ∙ ap (λ ws. c.args.words.now.items ++ ws) (sym (heads_more schema rows k));
      left = column_behind schema rows k c.columns.rest.now c.in_ok-behind.behind.now feeders within c.columns.invariant.left c.in_ok-behind.ensures.behind;
    }

pub returns-clause-feeders : goal.returns-clause-feeders
returns-clause-feeders c =
    let schema = c.args.index.now.schema in
    let rows = c.args.index.now.rows in
    let feeders = feeder_words c.args.index.now.feeders (feeders_of rows) in
    feeders_left schema rows c.columns.c c.columns.rest.now feeders (omega (arith, c.columns-test.false, c.columns-c-end.ensures.columns, ap (λ (s : Declared). length s.columns) c.schema.ensures.schema)) c.columns.invariant.left
