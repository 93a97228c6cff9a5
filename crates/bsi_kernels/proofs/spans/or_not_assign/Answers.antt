use Rattle.std.proofs.Common.{◌+◌, ◌-◌, length, ap, not, ◌∙◌, arith}
use Rattle.std.specs.Prelude.{bit_or, ◌||◌, ◌*◌, ◌<◌, ◌^◌}
use Rattle.std.specs.Int.{bit_not, w64}
use Rattle.bsi_bits.specs.Packed.{bit_of}
use Rattle.bsi_kernels.proofs.SpanBits.{stepped_place, or_not_digit}
use Rattle.bsi_kernels.proofs.spans.or_not_assign.Goals as goal

pub returns-clause-bits : goal.returns-clause-bits
returns-clause-bits c p below =
    let at = c.args.at in
    let n = at + length c.args.span.now - at in
    ap (λ ws. bit_of ws p) c.or_not.ensures
    ∙ stepped_place (λ y. y < 2 ^ 64) (λ x y. bit_or x (bit_not w64 y)) (λ a b. a || not b) or_not_digit c.args.span.now c.words-words.result.now c.know_fits.ensures at n (omega arith) (omega (arith, c.words-words.ensures.few)) p below
    ∙ ap (λ b. bit_of c.args.span.now p || not b) (c.words-words.ensures.places (64 * at + p))
