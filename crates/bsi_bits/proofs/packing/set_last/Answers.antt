use Rattle.bsi_bits.proofs.Pushing.{set_packed, set_bits}
use Rattle.bsi_bits.proofs.packing.set_last.Goals as goal

pub returns-clause-packed : goal.returns-clause-packed
returns-clause-packed c = set_packed c.args.n c.args.words.now.items c.requires.some c.requires.packed c.index_mut.result.now c.index_mut.ensures.value

pub returns-clause-bits : goal.returns-clause-bits
returns-clause-bits c = set_bits c.args.n c.args.words.now.items c.requires.some c.requires.packed c.index_mut.result.now c.index_mut.ensures.value
