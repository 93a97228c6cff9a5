use Rattle.std.proofs.Common.{◌≡◌, ◌<◌, ◌+◌, ◌-◌, ◌*◌, ◌||◌, length, take, drop, arith}
use Rattle.std.specs.Prelude.{min}
use Rattle.std.proofs.lemmas.List.{length-take, length-drop}
use Rattle.bsi_columns.specs.DigitTests.{relates_step}
use Rattle.bsi_columns.proofs.SpanChunks.{stepped_more}
use Rattle.bsi_columns.proofs.decomposed.narrowing.narrow_digit.Goals as goal

-- the part that is stepped ends where the next one begins, or the span does
pub chunks-preserved : goal.chunks-preserved
chunks-preserved g c =
    let digits = g.E.Encoding.digits c.args.component.now in
    let span = c.chunks.span in
    let from = 64 * c.chunks.k in
    let n = from + c.min.result - from in
    let same = c.chunks.auto.span in
    let begun : from < length span = omega (arith, same, c.chunks-test.true, c.div_ceil-k-end.ensures) in
    let size : c.min.result ≡ min 64 (length span - from) = omega (arith, same, c.min.ensures) in
    let long : length (take n (drop from span)) ≡ n = omega (arith, length-take n (drop from span), length-drop from span, size, begun) in
    stepped_more from (64 * (c.chunks.k + 1)) (λ low v. relates_step c.args.relation (c.args.is_lowest || low) v c.args.digit) digits c.args.at n c.args.span.now span c.narrow_chunk.new.span
    same (omega (arith, same, size, begun)) (omega (arith, c.narrow_chunk.auto.span, long)) (omega (arith, size)) (λ p below inside. omega (arith, same, size, begun)) c.chunks.invariant
    (λ p below row. c.narrow_chunk.ensures p (omega (arith, long)) row)
