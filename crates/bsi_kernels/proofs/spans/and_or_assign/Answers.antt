use Rattle.std.proofs.Common.{◌+◌, ◌-◌, length, ap, ap₂, ◌∙◌, arith}
use Rattle.std.specs.Prelude.{bit_and, bit_or, ◌&&◌, ◌||◌, ◌*◌}
use Rattle.std.specs.Simd.Lanes.{zip2, chunk}
use Rattle.bsi_bits.specs.Packed.{bit_of}
use Rattle.bsi_bits.proofs.Logic.{and_bitwise, or_bitwise}
use Rattle.bsi_kernels.proofs.SpanBits.{stepped_place, stepped_length}
use Rattle.bsi_kernels.proofs.spans.and_or_assign.Goals as goal

-- the first step, and the second on what it leaves
pub returns-clause-bits : goal.returns-clause-bits
returns-clause-bits c p below =
    let at = c.args.at in
    let span = c.args.span.now in
    let n = at + length span - at in
    let first = c.words-first.result.now in
    let second = c.words-second.result.now in
    let mask = zip2 bit_and span (chunk at n first) in
    let long = stepped_length (λ _. Unit {0}) bit_and ◌&&◌ and_bitwise.at span first (λ k. tt) at n (omega arith) (omega (arith, c.words-first.ensures.few)) in
    ap (λ ws. bit_of ws p) c.and_or.ensures
    ∙ stepped_place (λ _. Unit {0}) bit_or ◌||◌ or_bitwise.at mask second (λ k. tt) at n (omega (arith, long)) (omega (arith, c.words-second.ensures.few)) p (omega (arith, long))
    ∙ ap₂ ◌||◌
    (stepped_place (λ _. Unit {0}) bit_and ◌&&◌ and_bitwise.at span first (λ k. tt) at n (omega arith) (omega (arith, c.words-first.ensures.few)) p below
    ∙ ap (◌&&◌ (bit_of span p)) (c.words-first.ensures.places (64 * at + p)))
    (c.words-second.ensures.places (64 * at + p))
