use Rattle.std.proofs.Common.{◌≡◌, ◌*◌, ◌≤◌, ◌++◌, length, take, drop, arith, ap, ap₂, sym, subst, ◌∙◌, append_assoc, length-append}
use Rattle.std.specs.List.{flat_map}
use Rattle.std.proofs.Math.Nat.{mul-le-mul_left}
use Rattle.std.proofs.lemmas.List.{drop_at, length-map, take_at}
use Rattle.bsi_bits.specs.BitList.{word_count}
use Rattle.bsi_schema.specs.Columns.{column_at, entry_at, Declared}
use Rattle.bsi_rows.specs.Rows.{column_of, SourcedRow}
use Rattle.bsi_table.specs.Bitmaps.{bitmap_count, bitmaps_of}
use Rattle.bsi_segments.specs.Bitmaps.{packed, AreBitmaps}
use Rattle.bsi_storage.specs.Heads.{numbers_of, zone_words}
use Rattle.bsi_storage.proofs.BodyWords.{few_bitmaps}
use Rattle.bsi_storage.proofs.ColumnHeads.{checksums, column_bitmaps_long, column_long}
use Rattle.bsi_storage.proofs.heads.encode_column.Goals as goal

pub overflow_mul-total : goal.overflow_mul-total
overflow_mul-total c =
    let few : c.count_bitmaps-count.result ≤ 2048 = omega (arith, c.count_bitmaps-count.ensures, few_bitmaps c.form.result.now c.form.ensures.valid) in
    let low : c.div_ceil-long.result ≤ 67108864 = omega (arith, c.div_ceil-long.ensures, c.len.ensures.within) in
    omega (arith, few, mul-le-mul_left c.count_bitmaps-count.result low)

pub split_at-requires : goal.split_at-requires
split_at-requires c =
    let schema = c.args.index.now.schema in
    let rows = c.args.index.now.rows in
    let k = c.args.c in
    let form = (column_at schema.columns k).form in
    let many : c.count_bitmaps-count.result ≡ bitmap_count form =
    c.count_bitmaps-count.ensures ∙ ap bitmap_count (c.form.ensures.form ∙ ap (λ (s : Declared). (column_at s.columns k).form) c.schema.ensures.schema) in
    let rows_long = c.len.ensures.len ∙ ap length c.column-column.ensures.entries ∙ length-map rows (λ (row : SourcedRow). entry_at row.1 k) in
    let long : c.div_ceil-long.result ≡ word_count (length rows) = omega (arith, c.div_ceil-long.ensures, rows_long) in
    let product : c.count_bitmaps-count.result * c.div_ceil-long.result ≡ bitmap_count form * word_count (length rows) = ap₂ (λ a b. a * b) many long in
    omega (arith, product, column_long schema rows k, ap length c.requires.first.1, length-append (flat_map packed (bitmaps_of schema rows k)) c.requires.first.0)

pub returns-clause-heads : goal.returns-clause-heads
returns-clause-heads c =
    let schema = c.args.index.now.schema in
    let rows = c.args.index.now.rows in
    let k = c.args.c in
    let bits = bitmaps_of schema rows k in
    let form = (column_at schema.columns k).form in
    let old = c.args.words.now.items in
    let many : c.count_bitmaps-count.result ≡ bitmap_count form =
    c.count_bitmaps-count.ensures ∙ ap bitmap_count (c.form.ensures.form ∙ ap (λ (s : Declared). (column_at s.columns k).form) c.schema.ensures.schema) in
    let rows_long = c.len.ensures.len ∙ ap length c.column-column.ensures.entries ∙ length-map rows (λ (row : SourcedRow). entry_at row.1 k) in
    let long : c.div_ceil-long.result ≡ word_count (length rows) = omega (arith, c.div_ceil-long.ensures, rows_long) in
    let product : c.count_bitmaps-count.result * c.div_ceil-long.result ≡ bitmap_count form * word_count (length rows) = ap₂ (λ a b. a * b) many long in
    let first = c.split_at.ensures.front ∙ ap (take (c.count_bitmaps-count.result * c.div_ceil-long.result)) c.requires.first.1
    ∙ take_at (flat_map packed bits) c.requires.first.0 (c.count_bitmaps-count.result * c.div_ceil-long.result) (column_long schema rows k ∙ sym product) in
    let all = subst (λ m. AreBitmaps m (length rows) bits) (sym many) (column_bitmaps_long schema rows k) in
    let zone = c.in_ok-zone.ensures ∙ ap (λ es. zone_words (numbers_of es)) c.column-column.ensures.entries in
    c.in_ok-encode_checksums.ensures (length rows) bits all (sym long) first
    ∙ ap (λ ws. ws ++ checksums bits) (c.in_ok-extend_from_slice.ensures.items ∙ ap (λ ws. old ++ ws) zone)
    ∙ append_assoc old (zone_words (numbers_of (column_of rows k))) (checksums bits)

pub returns-clause-behind : goal.returns-clause-behind
returns-clause-behind c =
    let schema = c.args.index.now.schema in
    let rows = c.args.index.now.rows in
    let k = c.args.c in
    let bits = bitmaps_of schema rows k in
    let form = (column_at schema.columns k).form in
    let many : c.count_bitmaps-count.result ≡ bitmap_count form =
    c.count_bitmaps-count.ensures ∙ ap bitmap_count (c.form.ensures.form ∙ ap (λ (s : Declared). (column_at s.columns k).form) c.schema.ensures.schema) in
    let rows_long = c.len.ensures.len ∙ ap length c.column-column.ensures.entries ∙ length-map rows (λ (row : SourcedRow). entry_at row.1 k) in
    let long : c.div_ceil-long.result ≡ word_count (length rows) = omega (arith, c.div_ceil-long.ensures, rows_long) in
    let product : c.count_bitmaps-count.result * c.div_ceil-long.result ≡ bitmap_count form * word_count (length rows) = ap₂ (λ a b. a * b) many long in
    let last = c.split_at.ensures.back ∙ ap (drop (c.count_bitmaps-count.result * c.div_ceil-long.result)) c.requires.first.1
    ∙ drop_at (flat_map packed bits) c.requires.first.0 (c.count_bitmaps-count.result * c.div_ceil-long.result) (column_long schema rows k ∙ sym product) in
    c.requires.first.1 ∙ ap (λ ws. flat_map packed bits ++ ws) (sym last)
