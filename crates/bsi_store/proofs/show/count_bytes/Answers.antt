use Rattle.std.proofs.Common.{◌≡◌, ◌≤◌, ◌*◌, ℕ, length, arith, ap, ap₂, ◌∙◌}
use Rattle.std.proofs.Math.Nat.{mul-le-mul}
use Rattle.bsi_bits.specs.BitList.{word_count}
use Rattle.bsi_storage.proofs.BodyWords.{few_bitmaps}
use Rattle.bsi_schema.specs.Columns.{column_at}
use Rattle.bsi_table.specs.Bitmaps.{bitmap_count}
use Rattle.bsi_store.proofs.show.count_bytes.Goals as goal

-- at most 2^26 words of 8 bytes in each of at most 2,048 bitmaps
few_bytes : (words bitmaps : ℕ) → words ≤ 67108864 → bitmaps ≤ 2048 → 8 * words * bitmaps ≤ 1099511627776
few_bytes words bitmaps few many =
    let eight : 8 * words ≤ 536870912 = omega (arith, few) in
    mul-le-mul eight many

pub overflow_mul-result-2 : goal.overflow_mul-result-2
overflow_mul-result-2 c =
    let words : c.div_ceil.result ≤ 67108864 = omega (arith, c.len-rows.ensures.within, c.limit.ensures.within, c.div_ceil.ensures) in
    let bitmaps : c.count_bitmaps.result ≤ 2048 = omega (arith, c.count_bitmaps.ensures, few_bitmaps c.form.result.now c.form.ensures.valid) in
    record { fits = omega (arith, few_bytes c.div_ceil.result c.count_bitmaps.result words bitmaps) }

pub returns : goal.returns
returns c =
    let column = column_at c.args.index.now.schema.columns c.args.c in
    let words : c.div_ceil.result ≡ word_count (length c.args.index.now.rows) = omega (arith, c.div_ceil.ensures, c.len-rows.ensures.len) in
    let bitmaps : c.count_bitmaps.result ≡ bitmap_count column.form =
    c.count_bitmaps.ensures ∙ (ap bitmap_count c.form.ensures.form ∙ ap (λ s. bitmap_count (column_at s.columns c.args.c).form) c.schema.ensures.schema) in
    ap₂ (λ w b. 8 * w * b) words bitmaps
