use Rattle.std.proofs.Common.{sym}
use Rattle.bsi_components.proofs.MarkedDigits.{marked_more, marked_digits, itself_marked}
use Rattle.bsi_components.proofs.component.encoding.ComponentEncoding.push_block_reserved.Goals as goal

pub invariant_of-self : goal.invariant_of-self
invariant_of-self g c =
    let below = rw (← c.self.view_is) at c.requires.below in
    itself_marked g.met.M.Marking.sound (marked_more c.self.invariant c.push_block.new.bitmaps.vectors c.push_block.ensures.count c.args.block.now below c.push_block.ensures.bits)

pub returns-clause-digits : goal.returns-clause-digits
returns-clause-digits g c =
    let below = rw (← c.self.view_is) at c.requires.below in
    rw (← c.self.view_is) (sym (marked_digits g.met.M.Marking.sound (marked_more c.self.invariant c.push_block.new.bitmaps.vectors c.push_block.ensures.count c.args.block.now below c.push_block.ensures.bits)))
