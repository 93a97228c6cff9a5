use Rattle.std.proofs.Common.{◌≡◌, ℕ, ◌+◌, ◌*◌, ◌-◌, ◌<◌, ◌≤◌, ◌&&◌, ◌++◌, length, take, drop, ap, ap₂, subst, ◌∙◌, arith}
use Rattle.std.specs.Prelude.{min}
use Rattle.std.specs.Simd.Lanes.{chunk}
use Rattle.std.proofs.lemmas.Simd.{length-chunk, put_chunk_is}
use Rattle.bsi_slices.specs.Related.{compares_numbers}
use Rattle.bsi_slices.specs.Slices.{number}
use Rattle.bsi_slices.specs.Spans.{IsIntersected}
use Rattle.bsi_slices.proofs.WordSpans.{bit_of-chunk, narrowed_more}
use Rattle.bsi_slices.proofs.slices.related.and_compare_columns.Goals as goal

-- one block more is kept
pub blocks-2-preserved : goal.blocks-2-preserved
blocks-2-preserved c =
    let k = c.blocks-2.k in
    let at : ℕ = 512 * k in
    let words = c.blocks-2.words in
    let len = length c.args.words.now in
    let n : ℕ = c.min.result - at in
    let inside : at < len = omega (arith, c.blocks-2-test.true, c.div_ceil-k-end.ensures) in
    let within : at + n ≤ length words = omega (arith, c.min.ensures, c.blocks-2.auto.words, inside) in
    let size : length (chunk at n words) ≡ n = length-chunk at n words within in
    let passes = λ (r : ℕ). compares_numbers c.args.comparison (number c.args.slices.now (64 * c.args.start + r)) (number c.args.others.now (64 * c.args.start + r)) in
    let here : min at len ≡ at = omega (arith, inside) in
    let long : length c.and_compare_block.new.words ≡ n = c.and_compare_block.ensures.long ∙ size in
    subst (IsIntersected passes 0 (min (512 * (k + 1)) len) c.args.words.now)
    (put_chunk_is at words c.and_compare_block.new.words (omega (arith, within, long)) ∙ ap (λ m. take at words ++ (c.and_compare_block.new.words ++ drop m (drop at words))) long)
    (narrowed_more passes 0 at n (min (512 * (k + 1)) len) c.args.words.now words c.and_compare_block.new.words
    (omega (arith, c.min.ensures, inside)) (omega arith) long (omega (arith, c.blocks-2.auto.words))
    (subst (λ m. IsIntersected passes 0 m c.args.words.now words) here c.blocks-2.invariant)
    (λ p below.
    let place : 64 * (c.args.start + at) + p ≡ 64 * c.args.start + (64 * at + p) = omega arith in
    c.and_compare_block.ensures.bits p (omega (arith, below, size))
    ∙ ap₂ ◌&&◌ (bit_of-chunk at n words p below) (ap (λ r. compares_numbers c.args.comparison (number c.args.slices.now r) (number c.args.others.now r)) place)))
