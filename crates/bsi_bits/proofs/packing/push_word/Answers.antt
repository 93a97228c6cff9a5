use Rattle.bsi_bits.proofs.Splicing.{spliced_packed, spliced_bits, splices_none, splices_after, splices_within, splices_over}
use Rattle.std.proofs.Common.{arith}
use Rattle.bsi_bits.proofs.packing.push_word.Goals as goal

-- a word of their own
pub returns-then-count-gt0-clause-packed : goal.returns-then-count-gt0-clause-packed
returns-then-count-gt0-clause-packed c =
    rw c.push_reserved.ensures.items (spliced_packed c.args.n c.args.count c.args.word c.args.words.now.items _ c.requires.within c.requires.clear
    (splices_after c.args.n c.args.count c.args.word c.args.words.now.items c.requires.few c.requires.clear c.requires.packed c.if-place-eq0.true c.if-count-gt0.true))

pub returns-then-count-gt0-clause-bits : goal.returns-then-count-gt0-clause-bits
returns-then-count-gt0-clause-bits c =
    rw c.push_reserved.ensures.items (spliced_bits c.args.n c.args.count c.args.word c.args.words.now.items _ c.requires.few
    (splices_after c.args.n c.args.count c.args.word c.args.words.now.items c.requires.few c.requires.clear c.requires.packed c.if-place-eq0.true c.if-count-gt0.true))

-- no bit
pub returns-else-count-gt0-clause-bits : goal.returns-else-count-gt0-clause-bits
returns-else-count-gt0-clause-bits c =
    spliced_bits c.args.n c.args.count c.args.word c.args.words.now.items c.args.words.now.items c.requires.few
    (splices_none c.args.n c.args.count c.args.word c.args.words.now.items c.requires.few c.requires.clear c.requires.packed (omega (arith, c.if-count-gt0.false)))

-- further places of the last word, and of one after it
pub returns-then-place-count-gt64-clause-packed : goal.returns-then-place-count-gt64-clause-packed
returns-then-place-count-gt64-clause-packed c =
    rw c.push_reserved-then-place-count-gt64.ensures.items (spliced_packed c.args.n c.args.count c.args.word c.args.words.now.items _ c.requires.within c.requires.clear
    (splices_over c.args.n c.args.count c.args.word c.args.words.now.items c.requires.few c.requires.clear c.requires.packed c.if-place-eq0.false c.index_mut.result.now c.index_mut.ensures.value c.if-place-count-gt64.true))

pub returns-then-place-count-gt64-clause-bits : goal.returns-then-place-count-gt64-clause-bits
returns-then-place-count-gt64-clause-bits c =
    rw c.push_reserved-then-place-count-gt64.ensures.items (spliced_bits c.args.n c.args.count c.args.word c.args.words.now.items _ c.requires.few
    (splices_over c.args.n c.args.count c.args.word c.args.words.now.items c.requires.few c.requires.clear c.requires.packed c.if-place-eq0.false c.index_mut.result.now c.index_mut.ensures.value c.if-place-count-gt64.true))

-- further places of the last word alone
pub returns-else-place-count-gt64-clause-packed : goal.returns-else-place-count-gt64-clause-packed
returns-else-place-count-gt64-clause-packed c =
    spliced_packed c.args.n c.args.count c.args.word c.args.words.now.items _ c.requires.within c.requires.clear
    (splices_within c.args.n c.args.count c.args.word c.args.words.now.items c.requires.few c.requires.clear c.requires.packed c.if-place-eq0.false c.index_mut.result.now c.index_mut.ensures.value c.if-place-count-gt64.false)

pub returns-else-place-count-gt64-clause-bits : goal.returns-else-place-count-gt64-clause-bits
returns-else-place-count-gt64-clause-bits c =
    spliced_bits c.args.n c.args.count c.args.word c.args.words.now.items _ c.requires.few
    (splices_within c.args.n c.args.count c.args.word c.args.words.now.items c.requires.few c.requires.clear c.requires.packed c.if-place-eq0.false c.index_mut.result.now c.index_mut.ensures.value c.if-place-count-gt64.false)
