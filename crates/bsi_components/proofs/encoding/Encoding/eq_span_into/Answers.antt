use Rattle.std.proofs.Common.{◌≡◌, ◌+◌, ◌*◌, ◌-◌, ◌^◌, ◌&&◌, length, get_or, replicate, nat_eq, ap, ◌∙◌, arith}
use Rattle.bsi_bits.specs.Packed.{bit_of}
use Rattle.bsi_kernels.proofs.SpanBits.{ones_bit}
use Rattle.bsi_components.proofs.encoding.Encoding.eq_span_into.Goals as goal

-- of a span of ones the rows are kept that have the digit
pub returns : goal.returns
returns g c = λ on p below row.
    let n = length c.args.span.now in
    let digit = get_or (g.Self.Encoding.digits c.args.self.now) (64 * c.args.at + p) 0 in
    let filled : c.fill.new.self ≡ replicate n (2 ^ 64 - 1) = c.fill.ensures.after (λ y same. same) in
    c.eq_span.ensures on p (omega (arith, c.fill.ensures.len)) row
    ∙ ap (λ ws. bit_of ws p && nat_eq digit c.args.d) filled
    ∙ ap (λ b. b && nat_eq digit c.args.d) (ones_bit n p below)
