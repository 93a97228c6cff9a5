use Rattle.std.proofs.Common.{◌≡◌, ◌≤◌, ◌+◌, ◌*◌, ◌-◌, ◌^◌, length, get_or, replicate, sym, ap, ◌∙◌, le-leb, arith}
use Rattle.bsi_bits.specs.Packed.{bit_of}
use Rattle.bsi_kernels.proofs.SpanBits.{ones_bit}
use Rattle.bsi_components.proofs.range.reads.RangeReads.le_span_into.Goals as goal

-- each digit is at most the greatest
pub returns-then-d-top : goal.returns-then-d-top
returns-then-d-top c = λ p below row.
    let n = length c.args.span.now in
    let digit = get_or c.args.component.now.digits (64 * c.args.at + p) 0 in
    let filled : c.fill.new.self ≡ replicate n (2 ^ 64 - 1) = c.fill.ensures.after (λ y same. same) in
    let within : digit ≤ c.args.d = omega (arith, c.top.ensures.most (64 * c.args.at + p), c.if-d-top.true) in
    ap (λ ws. bit_of ws p) filled ∙ ones_bit n p below ∙ sym (le-leb digit c.args.d within)
