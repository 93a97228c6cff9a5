use Rattle.std.proofs.Common.{ap, ◌∙◌}
use Rattle.bsi_bits.specs.Packed.{bit_of}
use Rattle.bsi_kernels.proofs.SpanBits.{turned_place}
use Rattle.bsi_kernels.proofs.spans.flip.Goals as goal

pub returns-clause-bits : goal.returns-clause-bits
returns-clause-bits c p below = ap (λ ws. bit_of ws p) c.not.ensures ∙ turned_place c.args.span.now c.know_fits.ensures p below
