use Rattle.std.proofs.Common.{◌≡◌, ℕ, ◌+◌, ◌*◌, ◌-◌, ◌<◌, ◌≤◌, ◌&&◌, ◌++◌, None, length, take, drop, get_or, ap, ap₂, subst, ◌∙◌, arith}
use Rattle.std.specs.Prelude.{min}
use Rattle.std.specs.Simd.Lanes.{chunk}
use Rattle.std.proofs.lemmas.Simd.{length-chunk, put_chunk_is}
use Rattle.bsi_slices.specs.Related.{compares_entries}
use Rattle.bsi_slices.specs.Spans.{IsIntersected}
use Rattle.bsi_columns.proofs.WordSpans.{bit_of-chunk, narrowed_more}
use Rattle.bsi_columns.proofs.decomposed.Decomposed.and_compare_columns.Goals as goal

-- one block more is kept
pub blocks-2-preserved : goal.blocks-2-preserved
blocks-2-preserved g c =
    let k = c.blocks-2.k in
    let from : ℕ = 512 * k in
    let span = c.blocks-2.span in
    let len = length c.args.span.now in
    let n : ℕ = c.min.result - from in
    let inside : from < len = omega (arith, c.blocks-2-test.true, c.div_ceil-k-end.ensures) in
    let within : from + n ≤ length span = omega (arith, c.min.ensures, c.blocks-2.auto.span, inside) in
    let size : length (chunk from n span) ≡ n = length-chunk from n span within in
    let passes = λ (r : ℕ). compares_entries c.args.comparison (get_or c.args.self.now.entries (64 * c.args.at + r) None) (get_or c.args.other.now.entries (64 * c.args.at + r) None) in
    let here : min from len ≡ from = omega (arith, inside) in
    let long : length c.and_compare_block.new.words ≡ n = c.and_compare_block.ensures.long ∙ size in
    subst (IsIntersected passes 0 (min (512 * (k + 1)) len) c.args.span.now)
    (put_chunk_is from span c.and_compare_block.new.words (omega (arith, within, long)) ∙ ap (λ m. take from span ++ (c.and_compare_block.new.words ++ drop m (drop from span))) long)
    (narrowed_more passes 0 from n (min (512 * (k + 1)) len) c.args.span.now span c.and_compare_block.new.words
    (omega (arith, c.min.ensures, inside)) (omega arith) long (omega (arith, c.blocks-2.auto.span))
    (subst (λ m. IsIntersected passes 0 m c.args.span.now span) here c.blocks-2.invariant)
    (λ p below.
    let place : 64 * (c.args.at + from) + p ≡ 64 * c.args.at + (64 * from + p) = omega arith in
    c.and_compare_block.ensures.rows p (omega (arith, below, size))
    ∙ ap₂ ◌&&◌ (bit_of-chunk from n span p below) (ap (λ r. compares_entries c.args.comparison (get_or c.args.self.now.entries r None) (get_or c.args.other.now.entries r None)) place)))

-- no block is left
pub returns-clause-rows : goal.returns-clause-rows
returns-clause-rows g c = λ yes p below. c.blocks-2.invariant.inside p (omega arith) (omega (arith, below, c.blocks-2-test.false, c.div_ceil-k-end.ensures))
