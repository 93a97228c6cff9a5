use Rattle.std.proofs.Common.{ℕ, ◌≡◌, ◌+◌, ◌*◌, ◌-◌, ◌≤◌, ◌&&◌, length, ◌∙◌, arith}
use Rattle.bsi_slices.specs.Decisions.{passes}
use Rattle.bsi_slices.specs.Slices.{number}
use Rattle.bsi_slices.proofs.WordSpans.{bit_of-chunk, span_room, narrowed_more}
use Rattle.bsi_slices.proofs.slices.compare.and_test_spans.Goals as goal

-- one more span is kept
pub span-preserved : goal.span-preserved
span-preserved g c =
    let at : ℕ = c.args.from + g.row.N * c.span.k in
    let room : g.row.N * (c.span.k + 1) ≤ length c.args.words.now - c.args.from = span_room g.row.N c.span.k (length c.args.words.now - c.args.from) c.requires.spans.0 c.span-test.true in
    let next : g.row.N * (c.span.k + 1) ≡ g.row.N * c.span.k + g.row.N = omega arith in
    let enough : at + g.row.N ≤ length c.span.words = omega (arith, c.span.auto.words, c.requires.within) in
    let place : (p : ℕ) → 64 * (c.args.start + at) + p ≡ 64 * c.args.start + (64 * at + p) = λ p. omega arith in
    narrowed_more (λ r. passes c.args.test (number c.args.slices.now (64 * c.args.start + r))) c.args.from at g.row.N (c.args.from + g.row.N * (c.span.k + 1)) c.args.words.now c.span.words c.tested_span.result
    (omega arith) (omega arith) c.tested_span.ensures.long (omega arith) c.span.invariant
    (λ p below. c.tested_span.ensures.bits p below
    ∙ (λ j. bit_of-chunk at g.row.N c.span.words p below j && passes c.args.test (number c.args.slices.now (place p j))))
