use Rattle.std.proofs.Common.{[], refl, sym, arith}
use Rattle.bsi_bits.proofs.Reading.{bits_are}
use Rattle.bsi_bits.proofs.bits.Bits.new.Goals as goal

pub returns : goal.returns
returns c = sym (bits_are 0 c.new.result.items [] refl (λ i below. absurd (omega arith)))
