use Rattle.std.proofs.Common.{◌≡◌, ◌*◌, ◌<◌, length, arith, rules, subst, sym, ap, ◌∙◌}
use Rattle.bsi_bits.specs.BitList.{word_count}
use Rattle.bsi_columns.specs.StoredBitmaps.{bits_each}
use Rattle.bsi_schema.specs.Columns.{column_at}
use Rattle.bsi_table.specs.Bitmaps.{bitmap_count, entries_bitmaps}
use Rattle.bsi_table.specs.Encoded.{Encodes}
use Rattle.bsi_segments.specs.Bitmaps.{AreBitmaps}
use Rattle.bsi_storage.proofs.Cutting.{bitmaps_long, enough, long_each, first_are, long_bits, no_column}
use Rattle.bsi_storage.proofs.decoding.decode_column.Goals as goal

-- there are too few words
pub returns-then-long-words-clause-none : goal.returns-then-long-words-clause-none
returns-then-long-words-clause-none c = λ entries rest has is.
    (let column = column_at c.args.schema.now.columns c.args.c in
    let some = enough column entries c.args.rows c.args.words.now rest has is in
    let count : c.count_bitmaps-count.result ≡ bitmap_count column.form = c.count_bitmaps-count.ensures ∙ ap bitmap_count c.form.ensures.form in
    let product : c.count_bitmaps-count.result * word_count c.args.rows ≡ bitmap_count column.form * word_count c.args.rows = ap (λ m. m * word_count c.args.rows) count in
    let many : c.count_bitmaps-count.result * c.div_ceil.result ≡ c.count_bitmaps-count.result * word_count c.args.rows =
    ap (λ m. c.count_bitmaps-count.result * m) (let e : c.div_ceil.result ≡ word_count c.args.rows = omega (arith, c.div_ceil.ensures) in e) in
    omega (arith, some, product, many, c.if-long-words.true, c.saturating_mul-long.ensures))

-- or the bitmaps of no column
pub returns-in_default-clause-none : goal.returns-in_default-clause-none
returns-in_default-clause-none c = λ entries rest has is.
    (let column = column_at c.args.schema.now.columns c.args.c in
    let count : c.count_bitmaps-count.result ≡ bitmap_count column.form = c.count_bitmaps-count.ensures ∙ ap bitmap_count c.form.ensures.form in
    let needed : c.saturating_mul-long.result ≡ c.count_bitmaps-count.result * word_count c.args.rows = search rules in
    let none = rw c.in_default.is at c.in_ok-bitmaps.ensures.none in
    none (entries_bitmaps column entries)
    (subst (λ m. AreBitmaps m c.args.rows (entries_bitmaps column entries)) (sym count) (bitmaps_long column entries c.args.rows has.many))
    (c.split_at.ensures.front ∙ first_are column entries c.args.rows c.args.words.now rest has is c.saturating_mul-long.result (needed ∙ ap (λ m. m * word_count c.args.rows) count)))

pub column_from_bitmaps-requires-clause-even : goal.column_from_bitmaps-requires-clause-even
column_from_bitmaps-requires-clause-even c =
    let made = rw c.in-Some.is at c.in_ok-bitmaps.ensures.made in
    let each = long_bits c.count_bitmaps-count.result c.args.rows c.in-Some.bitmaps.items made.0 in
    λ j within. each j within ∙ sym (each 0 (omega (arith, within)))

pub returns-in-Some-2-clause-encodes : goal.returns-in-Some-2-clause-encodes
returns-in-Some-2-clause-encodes c =
    let column = column_at c.args.schema.now.columns c.args.c in
    let made = rw c.in-Some.is at c.in_ok-bitmaps.ensures.made in
    let file = rw c.in-Some-2.is at c.in_ok-column.ensures.encodes in
    let some : 0 < length c.in-Some.bitmaps.items = omega (arith, made.0.many, c.count_bitmaps-count.ensures, long_each c.in-Some.bitmaps.items) in
    subst (Encodes column c.in-Some-2.column) (long_bits c.count_bitmaps-count.result c.args.rows c.in-Some.bitmaps.items made.0 0 some) file

pub returns-in-None-clause-none : goal.returns-in-None-clause-none
returns-in-None-clause-none c = λ entries rest has is.
    (let column = column_at c.args.schema.now.columns c.args.c in
    let count : c.count_bitmaps-count.result ≡ bitmap_count column.form = c.count_bitmaps-count.ensures ∙ ap bitmap_count c.form.ensures.form in
    let needed : c.saturating_mul-long.result ≡ c.count_bitmaps-count.result * word_count c.args.rows = search rules in
    let made = rw c.in-Some.is at c.in_ok-bitmaps.ensures.made in
    let none = rw c.in-None.is at c.in_ok-column.ensures.none in
    no_column column entries c.args.rows c.args.words.now rest has is c.in-Some.bitmaps.items
    (subst (λ m. AreBitmaps m c.args.rows (bits_each c.in-Some.bitmaps.items)) count made.0)
    c.saturating_mul-long.result (needed ∙ ap (λ m. m * word_count c.args.rows) count) (sym c.split_at.ensures.front ∙ made.1) none)
