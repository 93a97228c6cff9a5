use Rattle.bsi_bits.proofs.Pushing.{pushed_packed, pushed_bits, pushes_after, pushes_within}
use Rattle.bsi_bits.proofs.packing.push_bit.Goals as goal

-- a word of its own
pub returns-then-place-eq0-clause-packed : goal.returns-then-place-eq0-clause-packed
returns-then-place-eq0-clause-packed c =
    rw c.push_reserved.ensures.items (pushed_packed c.args.n c.args.bit c.args.words.now.items _ c.requires.below (pushes_after c.args.n c.args.bit c.args.words.now.items c.requires.packed c.if-place-eq0.true))

pub returns-then-place-eq0-clause-bits : goal.returns-then-place-eq0-clause-bits
returns-then-place-eq0-clause-bits c =
    rw c.push_reserved.ensures.items (pushed_bits c.args.n c.args.bit c.args.words.now.items _ (pushes_after c.args.n c.args.bit c.args.words.now.items c.requires.packed c.if-place-eq0.true))

-- a further place of the last word
pub returns-else-place-eq0-clause-packed : goal.returns-else-place-eq0-clause-packed
returns-else-place-eq0-clause-packed c =
    pushed_packed c.args.n c.args.bit c.args.words.now.items _ c.requires.below
    (pushes_within c.args.n c.args.bit c.args.words.now.items c.requires.packed c.if-place-eq0.false c.index_mut.result.now c.index_mut.ensures.value)

pub returns-else-place-eq0-clause-bits : goal.returns-else-place-eq0-clause-bits
returns-else-place-eq0-clause-bits c =
    pushed_bits c.args.n c.args.bit c.args.words.now.items _
    (pushes_within c.args.n c.args.bit c.args.words.now.items c.requires.packed c.if-place-eq0.false c.index_mut.result.now c.index_mut.ensures.value)
