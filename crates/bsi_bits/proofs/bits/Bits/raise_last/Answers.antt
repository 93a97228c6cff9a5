use Rattle.std.proofs.Common.{sym, ◌∙◌, arith}
use Rattle.bsi_bits.proofs.Reading.{length-bits_of}
use Rattle.bsi_bits.proofs.bits.Bits.raise_last.Goals as goal

pub set_last-requires-clause-some : goal.set_last-requires-clause-some
set_last-requires-clause-some c = omega (arith, rw (← c.self.view_is) at c.requires, length-bits_of c.self.inside.len c.self.inside.words.items)

pub returns-clause-len : goal.returns-clause-len
returns-clause-len c =
    rw (← c.self.view_is) (length-bits_of c.self.inside.len c.set_last.new.words.items ∙ sym (length-bits_of c.self.inside.len c.self.inside.words.items))
