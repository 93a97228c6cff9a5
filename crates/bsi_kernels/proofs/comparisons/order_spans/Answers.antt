use Rattle.std.proofs.Common.{ℕ, ◌≡◌, ◌+◌, ◌*◌, ◌-◌, ◌≤◌, length, get_or, ◌∙◌, arith}
use Rattle.bsi_bits.specs.Packed.{bit_of}
use Rattle.bsi_kernels.specs.Places.{at_most_step}
use Rattle.bsi_kernels.proofs.WordSpans.{bit_of-chunk, span_room, written_more, written_none}
use Rattle.bsi_kernels.proofs.comparisons.order_spans.Goals as goal

pub spans-init : goal.spans-init
spans-init g c = λ numbers encoded small.
    written_none (λ r. at_most_step (bit_of c.args.words.now r) (get_or numbers (64 * c.args.start + r) 0) c.args.constant) c.args.from (c.args.from + g.row.N * 0) c.args.words.now (omega arith)

-- one more span is ordered
pub spans-preserved : goal.spans-preserved
spans-preserved g c =
    let at : ℕ = c.args.from + g.row.N * c.spans.k in
    let room : g.row.N * (c.spans.k + 1) ≤ length c.args.words.now - c.args.from = span_room g.row.N c.spans.k (length c.args.words.now - c.args.from) c.requires.lanes.0 c.spans-test.true in
    let next : g.row.N * (c.spans.k + 1) ≡ g.row.N * c.spans.k + g.row.N = omega arith in
    let enough : at + g.row.N ≤ length c.spans.words = omega (arith, c.spans.auto.words, c.requires.begins) in
    let place : (p : ℕ) → 64 * (c.args.start + at) + p ≡ 64 * c.args.start + (64 * at + p) = λ p. omega arith in
    λ numbers encoded small.
    let before = c.spans.invariant numbers encoded small in
    written_more (λ r. at_most_step (bit_of c.args.words.now r) (get_or numbers (64 * c.args.start + r) 0) c.args.constant) c.args.from at g.row.N (c.args.from + g.row.N * (c.spans.k + 1)) c.args.words.now c.spans.words c.order_span.result
    (omega arith) (omega arith) c.order_span.ensures.long (omega arith) before
    (λ p below. c.order_span.ensures.bits numbers encoded small p below
    ∙ (λ j. at_most_step (bit_of-chunk at g.row.N c.spans.words p below j) (get_or numbers (place p j) 0) c.args.constant)
    ∙ (λ j. at_most_step (before.after (64 * at + p) (omega arith) j) (get_or numbers (64 * c.args.start + (64 * at + p)) 0) c.args.constant))
