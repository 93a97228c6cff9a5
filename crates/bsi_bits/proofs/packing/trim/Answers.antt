use Rattle.bsi_bits.proofs.Places.{cut_by_mask, cut_packed, cut_bits}
use Rattle.bsi_bits.proofs.packing.trim.Goals as goal

pub returns-then-used-ne0-clause-packed : goal.returns-then-used-ne0-clause-packed
returns-then-used-ne0-clause-packed c =
    rw (cut_by_mask c.args.words.now.items c.args.n c.requires.few c.if-used-ne0.true c.index_mut.result.now c.index_mut.ensures.value)
    (cut_packed c.args.words.now.items c.args.n c.requires.few c.if-used-ne0.true c.requires.within)

pub returns-then-used-ne0-clause-bits : goal.returns-then-used-ne0-clause-bits
returns-then-used-ne0-clause-bits c =
    rw (cut_by_mask c.args.words.now.items c.args.n c.requires.few c.if-used-ne0.true c.index_mut.result.now c.index_mut.ensures.value)
    (cut_bits c.args.words.now.items c.args.n c.requires.few c.if-used-ne0.true)
