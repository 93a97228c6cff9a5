use Rattle.std.proofs.Common.{ap, ◌∙◌, arith}
use Rattle.std.specs.Prelude.{◌==◌}
use Rattle.std.specs.Int.{bit_at, w64}
use Rattle.std.proofs.lemmas.Nat.Bits.{bit_at-lt, bit_at_not}
use Rattle.bsi_kernels.proofs.Decoding.{flipped}
use Rattle.bsi_kernels.proofs.marks.place_or_rest.Goals as goal

pub returns-else-bit-eq1 : goal.returns-else-bit-eq1
returns-else-bit-eq1 c = λ k near.
    ap (λ b. b == 1) (bit_at_not w64 c.args.place k (omega (arith, c.ranges.place.fits)) near)
    ∙ flipped (bit_at c.args.place k) c.args.bit (bit_at-lt c.args.place k) (omega (arith, c.requires, c.if-bit-eq1.false))
