use Rattle.std.proofs.Common.{◌<◌, ◌+◌, ◌-◌, ◌++◌, length, arith, rules, sym, ap, ◌∙◌, append_assoc}
use Rattle.std.specs.List.{flat_map}
use Rattle.bsi_rows.specs.Rows.{column_of}
use Rattle.bsi_schema.specs.Columns.{column_at}
use Rattle.bsi_shift.specs.Shifted.{shifted_entries}
use Rattle.bsi_table.specs.Bitmaps.{entries_bitmaps}
use Rattle.bsi_segments.specs.Bitmaps.{packed}
use Rattle.bsi_storage.specs.Saved.{columns_words}
use Rattle.bsi_storage.specs.Decoding.{encoded_words}
use Rattle.bsi_storage.proofs.ColumnWords.{column_entries, column_of_more, next_words, valid_more}
use Rattle.bsi_storage.proofs.Cutting.{same_column_words}
use Rattle.bsi_storage.proofs.decoding.decode_columns.Goals as goal

-- the next column is not there
pub returns-in_default-clause-none : goal.returns-in_default-clause-none
returns-in_default-clause-none c = λ others rest feeders rows many is.
    (let i = c.columns.invariant in
    let schema = c.args.schema.now in
    let k = c.columns.c in
    let within : k < length schema.columns = omega (arith, c.columns-test.true, c.columns-c-end.ensures.columns) in
    let left = i.others others rest feeders rows many is in
    let none = rw c.in_default.is at c.in_ok-column.ensures.none in
    none (column_of others k) (columns_words schema others (k + 1) (length schema.columns - (k + 1)) ++ rest)
    (column_entries schema others feeders c.args.rows k rows many within)
    (left ∙ ap (λ ws. ws ++ rest) (next_words schema others k (length schema.columns) within)
    ∙ append_assoc (flat_map packed (entries_bitmaps (column_at schema.columns k) (column_of others k))) (columns_words schema others (k + 1) (length schema.columns - (k + 1))) rest))

pub columns-preserved : goal.columns-preserved
columns-preserved c =
    let i = c.columns.invariant in
    let schema = c.args.schema.now in
    let k = c.columns.c in
    let within : k < length schema.columns = omega (arith, c.columns-test.true, c.columns-c-end.ensures.columns) in
    let file = rw c.in-Some.is at c.in_ok-column.ensures.encodes in
    let first = rw c.in-Some.is at c.in_ok-column.ensures.words in
    let new = c.push_reserved.new.self.items in
    let column = c.in-Some.column in
    let here = flat_map packed (entries_bitmaps (column_at schema.columns k) (shifted_entries column)) in
    record {
      many = search rules;
      file = column_of_more schema c.columns.columns.items new column k c.push_reserved.ensures.items i.many c.args.rows i.file file;
      words = i.words ∙ ap (λ ws. encoded_words schema c.columns.columns.items k ++ ws) first
          ∙ sym (append_assoc (encoded_words schema c.columns.columns.items k) here c.in-Some.behind.now)
          ∙ ap (λ ws. ws ++ c.in-Some.behind.now) (sym (valid_more schema c.columns.columns.items new column k c.push_reserved.ensures.items i.many));
      others = λ others rest feeders rows many is.
          (let left = i.others others rest feeders rows many is
          ∙ ap (λ ws. ws ++ rest) (next_words schema others k (length schema.columns) within)
          ∙ append_assoc (flat_map packed (entries_bitmaps (column_at schema.columns k) (column_of others k))) (columns_words schema others (k + 1) (length schema.columns - (k + 1))) rest in
          (same_column_words (column_at schema.columns k) (shifted_entries column) (column_of others k) c.args.rows c.in-Some.behind.now
          (columns_words schema others (k + 1) (length schema.columns - (k + 1)) ++ rest) file.rows (column_entries schema others feeders c.args.rows k rows many within).many
          (sym first ∙ left)));
    }
