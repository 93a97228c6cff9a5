use Rattle.std.proofs.Common.{false, [], ◌∷◌, ap, length, length-append, arith}
use Rattle.bsi_bits.specs.BitLists.{bits_at}
use Rattle.bsi_bits.proofs.bitmaps.Bitmaps.push_places.Goals as goal

pub raise_ones-requires-clause-some : goal.raise_ones-requires-clause-some
raise_ones-requires-clause-some c = λ j within.
    omega (arith, ap length (c.push_zeros.ensures.bits j (omega (arith, within, c.push_zeros.ensures.count))), length-append (bits_at c.args.self.now.vectors j) (false ∷ []))

pub returns-clause-bits : goal.returns-clause-bits
returns-clause-bits c = λ j within.
    c.raise_ones.ensures.raised j (bits_at c.args.self.now.vectors j) (omega (arith, within, c.push_zeros.ensures.count)) (c.push_zeros.ensures.bits j within)
