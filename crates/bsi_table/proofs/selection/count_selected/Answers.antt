use Rattle.std.proofs.Common.{◌≡◌, ◌+◌, ◌-◌, ◌*◌, ◌/◌, ◌<◌, ◌≤◌, ℕ, length, sym, ap, ◌∙◌, arith}
use Rattle.std.specs.Prelude.{min}
use Rattle.std.proofs.lemmas.List.{length-take}
use Rattle.std.proofs.lemmas.List.Sums.{count_by-le-length}
use Rattle.bsi_bits.specs.Packed.{bit_of, bits_of}
use Rattle.bsi_bits.proofs.Reading.{length-bits_of}
use Rattle.bsi_rows.specs.Rows.{holds}
use Rattle.bsi_table.specs.Encoded.{row_in}
use Rattle.bsi_table.proofs.Counting.{selected_before, all_selected, counted_more, none_selected}
use Rattle.bsi_table.proofs.selection.count_selected.Goals as goal

pub spans-init : goal.spans-init
spans-init c =
    let none : min 0 c.args.rows ≡ 0 = omega arith in
    record {
      counted = sym (ap (selected_before c.args.columns.now c.args.pred.now) none ∙ none_selected c.args.columns.now c.args.pred.now);
      small = omega arith;
    }

-- a span has at most so many rows
pub overflow_add-selected : goal.overflow_add-selected
overflow_add-selected c =
    let few = count_by-le-length (λ b. b) (bits_of c.min-here.result c.select_span.new.span) in
    let long = length-bits_of c.min-here.result c.select_span.new.span in
    omega (arith, few, long, c.count_span-selected.ensures, c.min-here.ensures, c.spans.invariant.small, c.requires.few, c.spans-test.true, c.div_ceil-k-end.ensures)

-- one span more
pub spans-preserved : goal.spans-preserved
spans-preserved c =
    let columns = c.args.columns.now in
    let pred = c.args.pred.now in
    let n : ℕ = 65536 * c.spans.k in
    let m : ℕ = c.min-here.result in
    let words = c.select_span.new.span in
    let left : n < c.args.rows = omega (arith, c.spans-test.true, c.div_ceil-k-end.ensures) in
    let rows : m ≡ min 65536 (c.args.rows - n) = omega (arith, c.min-here.ensures) in
    let size : (m + 63) / 64 ≤ length words =
    omega (arith, c.select_span.auto.span, length-take c.div_ceil.result c.spans.words, c.div_ceil.array_long, c.div_ceil.ensures, c.min-here.ensures) in
    let each : (p : ℕ) → p < m → bit_of words p ≡ holds pred (row_in columns (n + p)) =
    λ p below.
    let place : 64 * (1024 * c.spans.k) + p ≡ n + p = omega arith in
    c.in_ok-select_span.ensures.rows p (omega (arith, below, size)) (omega (arith, below, rows)) ∙ ap (λ r. holds pred (row_in columns r)) place in
    let selection = c.count_span-selected.ensures in
    let before : min n c.args.rows ≡ n = omega (arith, left) in
    let after : n + m ≡ min (65536 * (c.spans.k + 1)) c.args.rows = omega (arith, rows, left) in
    let counted = c.spans.invariant.counted ∙ ap (selected_before columns pred) before in
    let more = counted_more columns pred n m words each ∙ ap (selected_before columns pred) after in
    let few = count_by-le-length (λ b. b) (bits_of m words) in
    let long = length-bits_of m words in
    record {
      counted = omega (arith, counted, selection, more);
      small = omega (arith, few, long, selection, rows, c.spans.invariant.small);
    }

-- all rows
pub returns-clause-counted : goal.returns-clause-counted
returns-clause-counted c =
    let all : min (65536 * c.spans.k) c.args.rows ≡ c.args.rows = omega (arith, c.spans-test.false, c.div_ceil-k-end.ensures, c.spans.auto.k-end) in
    all_selected c.args.columns.now c.args.pred.now c.spans.selected (min (65536 * c.spans.k) c.args.rows) c.args.rows c.spans.invariant.counted all
