use Rattle.std.proofs.Common.{◌≡◌, ◌+◌, ◌*◌, ◌-◌, ◌^◌, length, get_or, replicate, ap, ◌∙◌, arith}
use Rattle.bsi_bits.specs.Packed.{bit_of}
use Rattle.bsi_kernels.specs.Places.{at_most_step}
use Rattle.bsi_kernels.proofs.SpanBits.{ones_bit}
use Rattle.bsi_components.proofs.DigitOrders.{at_most_first}
use Rattle.bsi_components.proofs.equality.reads.EqualityReads.le_span_into.Goals as goal

-- a span of ones says that the digits below are at most those of any constant
pub returns : goal.returns
returns c = λ p below row.
    let n = length c.args.span.now in
    let digit = get_or c.args.component.now.digits (64 * c.args.at + p) 0 in
    let filled : c.fill.new.self ≡ replicate n (2 ^ 64 - 1) = c.fill.ensures.after (λ y same. same) in
    c.le_span.ensures p (omega (arith, c.fill.ensures.len)) row
    ∙ ap (λ ws. at_most_step (bit_of ws p) digit c.args.d) filled
    ∙ ap (λ low. at_most_step low digit c.args.d) (ones_bit n p below)
    ∙ at_most_first digit c.args.d
