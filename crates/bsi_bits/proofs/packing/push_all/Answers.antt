use Rattle.std.proofs.Common.{◌≡◌, length, get_or, ◌∙◌, refl, arith}
use Rattle.bsi_bits.proofs.Joining.{Joins, joined_packed, joined_bits, joins_after, carries_more, joins_carried, joins_whole}
use Rattle.bsi_bits.proofs.packing.push_all.Goals as goal

-- the words as they are
pub returns-then-place-eq0-clause-packed : goal.returns-then-place-eq0-clause-packed
returns-then-place-eq0-clause-packed c =
    rw (rw c.unwrap.ensures at c.extend_from_slice.ensures.items)
    (joined_packed c.args.n c.args.count c.args.more.now c.args.words.now.items _ c.requires.within c.requires.more_packed
    (joins_after c.args.n c.args.count c.args.words.now.items c.args.more.now c.requires.packed c.requires.more_packed c.if-place-eq0.true))

pub returns-then-place-eq0-clause-bits : goal.returns-then-place-eq0-clause-bits
returns-then-place-eq0-clause-bits c =
    rw (rw c.unwrap.ensures at c.extend_from_slice.ensures.items)
    (joined_bits c.args.n c.args.count c.args.more.now c.args.words.now.items _
    (joins_after c.args.n c.args.count c.args.words.now.items c.args.more.now c.requires.packed c.requires.more_packed c.if-place-eq0.true))

pub words-preserved : goal.words-preserved
words-preserved c = record {
  carries =
      rw c.push_reserved.ensures.items (carries_more c.args.n c.args.more.now c.args.words.now.items c.if-place-eq0.false c.words.word-index (get_or c.args.more.now c.words.word-index 0) c.words.words.items c.words.carried
      (omega (arith, c.requires.within, c.requires.more_packed.few, c.words-test.true)) (omega (arith, c.type_inv.more c.words.word-index)) refl c.words.invariant.carries);
  capacity = c.push_reserved.ensures.capacity ∙ c.words.invariant.capacity;
}

-- what is carried past the last word has bits
with_carried : (c : goal.After-push_reserved-then-len-div_ceil) → Joins c.args.n c.args.count c.args.more.now c.args.words.now.items c.push_reserved-then-len-div_ceil.new.self.items
with_carried c =
    let all : c.words.word-index ≡ length c.args.more.now = omega (arith, c.words-test.false, c.words.auto.word-index-end) in
    rw c.push_reserved-then-len-div_ceil.ensures.items (joins_carried c.args.n c.args.more.now c.args.words.now.items c.if-place-eq0.false c.args.count c.requires.more_packed c.words.words.items c.words.carried
    (rw all at c.words.invariant.carries) (omega (arith, c.if-len-div_ceil.true, c.len.ensures, c.div_ceil.ensures, c.words.words.ok.0)))

pub returns-then-len-div_ceil-clause-packed : goal.returns-then-len-div_ceil-clause-packed
returns-then-len-div_ceil-clause-packed c = joined_packed c.args.n c.args.count c.args.more.now c.args.words.now.items _ c.requires.within c.requires.more_packed (with_carried c)

pub returns-then-len-div_ceil-clause-bits : goal.returns-then-len-div_ceil-clause-bits
returns-then-len-div_ceil-clause-bits c = joined_bits c.args.n c.args.count c.args.more.now c.args.words.now.items _ (with_carried c)

-- and has none
without_carried : (c : goal.Else-len-div_ceil) → Joins c.args.n c.args.count c.args.more.now c.args.words.now.items c.words.words.items
without_carried c =
    let all : c.words.word-index ≡ length c.args.more.now = omega (arith, c.words-test.false, c.words.auto.word-index-end) in
    joins_whole c.args.n c.args.more.now c.args.words.now.items c.if-place-eq0.false c.args.count c.requires.more_packed c.words.words.items c.words.carried
    (rw all at c.words.invariant.carries) (omega (arith, c.if-len-div_ceil.false, c.len.ensures, c.div_ceil.ensures, c.words.words.ok.0))

pub returns-else-len-div_ceil-clause-packed : goal.returns-else-len-div_ceil-clause-packed
returns-else-len-div_ceil-clause-packed c = joined_packed c.args.n c.args.count c.args.more.now c.args.words.now.items _ c.requires.within c.requires.more_packed (without_carried c)

pub returns-else-len-div_ceil-clause-bits : goal.returns-else-len-div_ceil-clause-bits
returns-else-len-div_ceil-clause-bits c = joined_bits c.args.n c.args.count c.args.more.now c.args.words.now.items _ (without_carried c)
