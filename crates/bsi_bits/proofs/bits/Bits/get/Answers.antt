use Rattle.std.proofs.Common.{◌<◌, arith}
use Rattle.bsi_bits.proofs.Reading.{length-bits_of, bit_read}
use Rattle.bsi_bits.proofs.bits.Bits.get.Goals as goal

pub index-requires : goal.index-requires
index-requires c =
    let within : c.args.i < c.self.inside.len = rw (← c.self.view_is, length-bits_of c.self.inside.len c.self.inside.words.items) at c.requires in
    omega (arith, c.self.invariant.few, c.self.inside.words.ok.0)

pub returns : goal.returns
returns c =
    let within : c.args.i < c.self.inside.len = rw (← c.self.view_is, length-bits_of c.self.inside.len c.self.inside.words.items) at c.requires in
    rw (← c.self.view_is) (bit_read c.self.inside.len c.self.inside.words.items c.self.invariant c.args.i c.index.result.now within c.index.ensures)
