use Rattle.std.proofs.Common.{◌+◌, ◌-◌, length, ap, ◌∙◌, arith}
use Rattle.std.specs.Prelude.{bit_and, ◌*◌, ◌<◌, ◌^◌}
use Rattle.std.specs.Int.{bit_not, w64}
use Rattle.bsi_bits.specs.BitList.{without}
use Rattle.bsi_bits.specs.Packed.{bit_of}
use Rattle.bsi_bits.proofs.Logic.{and_not_bitwise}
use Rattle.bsi_kernels.proofs.SpanBits.{stepped_place}
use Rattle.bsi_kernels.proofs.spans.and_not_assign.Goals as goal

pub returns-clause-bits : goal.returns-clause-bits
returns-clause-bits c p below =
    let at = c.args.at in
    let n = at + length c.args.span.now - at in
    ap (λ ws. bit_of ws p) c.and_not.ensures
    ∙ stepped_place (λ y. y < 2 ^ 64) (λ x y. bit_and x (bit_not w64 y)) without and_not_bitwise.at c.args.span.now c.words-words.result.now c.know_fits.ensures at n (omega arith) (omega (arith, c.words-words.ensures.few)) p below
    ∙ ap (without (bit_of c.args.span.now p)) (c.words-words.ensures.places (64 * at + p))
