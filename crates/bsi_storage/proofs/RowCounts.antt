-- How many words the rows of a segment have.
use Rattle.std.proofs.Common.{◌≡◌, ℕ, zero, suc, ◌+◌, ◌*◌, ◌<◌, ◌≤◌, Bool, true, false, List, [], length, take, refl, sym, ap, ◌∙◌, arith, length-append}
use Rattle.std.specs.Prelude.{nat_eq, if◌then◌else◌}
use Rattle.std.specs.Int.{div_ceil}
use Rattle.std.specs.List.{flat_map, range_with_len}
use Rattle.std.proofs.lemmas.List.{take_all}
use Rattle.std.proofs.lemmas.List.Sums.{sum_by_more}
use Rattle.bsi_bits.specs.BitList.{word_count}
use Rattle.bsi_schema.specs.Columns.{column_at, no_column, Declared, NamedColumn}
use Rattle.bsi_rows.specs.Rows.{column_of, feeders_of, SourcedRow}
use Rattle.bsi_table.specs.Bitmaps.{bitmap_count, bitmaps_of}
use Rattle.bsi_segments.specs.Bitmaps.{packed}
use Rattle.bsi_segments.specs.Bytes.{packed_bytes}
use Rattle.bsi_storage.specs.Saved.{columns_words, feeder_words, rows_words, AreRows}
use Rattle.bsi_storage.specs.Decoding.{bitmaps_in, feeder_word_count, rows_word_count}
use Rattle.bsi_storage.proofs.ColumnWords.{column_entries, feeders_long, words_after}
use Rattle.bsi_storage.proofs.Cutting.{length-bytes, words_long}

-- one more column
pub bitmaps_more : (columns : List NamedColumn) (c : ℕ) → c < length columns → bitmaps_in (take (c + 1) columns) ≡ bitmaps_in (take c columns) + bitmap_count (column_at columns c).form
bitmaps_more columns c within = sum_by_more (λ (column : NamedColumn). bitmap_count column.form) columns c no_column within

module _ (schema : Declared) (feeders : ℕ) (rows : List SourcedRow) (are : AreRows schema feeders rows) where
  column_long : (c : ℕ) → c < length schema.columns → length (flat_map packed (bitmaps_of schema rows c)) ≡ bitmap_count (column_at schema.columns c).form * word_count (length rows)
  column_long c within = words_long (column_at schema.columns c) (column_of rows c) (length rows) (column_entries schema rows feeders (length rows) c are refl within).many

  pub length-columns_words : (c : ℕ) → c ≤ length schema.columns → length (columns_words schema rows 0 c) ≡ bitmaps_in (take c schema.columns) * word_count (length rows)
  length-columns_words zero within = (let none : 0 * word_count (length rows) ≡ 0 = omega arith in sym none)
  length-columns_words (suc c) within =
      let f : ℕ → List ℕ = λ k. flat_map packed (bitmaps_of schema rows k) in
      let one : suc c ≡ c + 1 = omega arith in
      let inside : c < length schema.columns = omega (arith, within) in
      let split = ap (λ m. flat_map f (range_with_len 0 m)) one ∙ words_after f 0 c c (omega arith) in
      let before = length-columns_words c (omega (arith, within)) in
      let here = column_long c inside in
      let sums = ap (λ m. bitmaps_in (take m schema.columns)) one ∙ bitmaps_more schema.columns c inside in
      let product : bitmaps_in (take (suc c) schema.columns) * word_count (length rows)
      ≡ bitmaps_in (take c schema.columns) * word_count (length rows) + bitmap_count (column_at schema.columns c).form * word_count (length rows) =
      ap (λ m. m * word_count (length rows)) sums ∙ omega arith in
      omega (arith, product, before, here, ap (λ (ws : List ℕ). length ws) split, length-append (flat_map f (range_with_len 0 c)) (f c))

  pub length-feeder_words : length (feeder_words feeders (feeders_of rows)) ≡ feeder_word_count feeders (length rows)
  length-feeder_words = by (nat_eq feeders 1)
    where
      by : (one : Bool) → length (if one then [] else packed_bytes (feeders_of rows)) ≡ (if one then 0 else div_ceil (length rows) 8)
      by true = refl
      by false = length-bytes (feeders_of rows) ∙ ap (λ n. div_ceil n 8) (feeders_long rows)

  pub length-rows_words : length (rows_words schema feeders rows) ≡ rows_word_count schema feeders (length rows)
  length-rows_words =
      omega (
        arith,
        length-append (columns_words schema rows 0 (length schema.columns)) (feeder_words feeders (feeders_of rows)),
        length-columns_words (length schema.columns) (omega arith),
        ap (λ (cs : List NamedColumn). bitmaps_in cs * word_count (length rows)) (take_all (length schema.columns) schema.columns (omega arith)),
        length-feeder_words,
      )
