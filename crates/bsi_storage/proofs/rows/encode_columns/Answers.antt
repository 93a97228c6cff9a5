use Rattle.std.proofs.Common.{◌++◌, ℕ, List, arith, sym, ap, ap₂, ◌∙◌, append_assoc}
use Rattle.std.specs.List.{flat_map}
use Rattle.bsi_columns.specs.AnyColumns.{any_entries, any_form}
use Rattle.bsi_columns.specs.StoredBitmaps.{column_bitmaps}
use Rattle.bsi_schema.specs.Columns.{column_at}
use Rattle.bsi_table.specs.Bitmaps.{bitmaps_of, entries_bitmaps}
use Rattle.bsi_table.proofs.BitmapRows.{stored_of_shifted}
use Rattle.bsi_segments.specs.Bitmaps.{packed}
use Rattle.bsi_storage.specs.Saved.{columns_words}
use Rattle.bsi_storage.proofs.ColumnWords.{words_after}
use Rattle.bsi_storage.proofs.rows.encode_columns.Goals as goal

pub columns-preserved : goal.columns-preserved
columns-preserved c =
    let schema = c.args.index.now.schema in
    let rows = c.args.index.now.rows in
    let k = c.columns.c in
    let column = column_at schema.columns k in
    let f : ℕ → List ℕ = λ j. flat_map packed (bitmaps_of schema rows j) in
    let stored = ap any_entries c.stored.ensures ∙ sym (stored_of_shifted c.column.result.now column.offset c.column.ensures.offset) in
    let same = ap₂ column_bitmaps (ap any_form c.stored.ensures ∙ c.column.ensures.form) stored ∙ ap (entries_bitmaps column) c.column.ensures.entries in
    c.in_ok-encode_column.ensures
    ∙ ap₂ (λ ws maps. ws ++ flat_map packed maps) c.columns.invariant same
    ∙ append_assoc c.args.words.now.items (columns_words schema rows 0 k) (f k)
    ∙ ap (λ ws. c.args.words.now.items ++ ws) (sym (words_after f 0 k k (omega arith)))
