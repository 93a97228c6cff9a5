use Rattle.std.proofs.Common.{◌≤◌, ◌+◌, ◌^◌, length, sym, arith}
use Rattle.bsi_components.specs.Encodings.{digits_in}
use Rattle.bsi_components.proofs.MarkedDigits.{marked_same, marked_rows, marked_digits, itself_marked}
use Rattle.bsi_components.proofs.component.encoding.ComponentEncoding.reserve.Goals as goal

pub reserve-requires : goal.reserve-requires
reserve-requires g c =
    let within : length (digits_in g.M.Marking.first g.M.Marking.marks c.self.inside.base c.self.inside.bitmaps.vectors) + c.args.more ≤ 2 ^ 32 = rw (← c.self.view_is) at c.requires in
    omega (arith, within, marked_rows g.met.M.Marking.sound c.self.invariant)

pub invariant_of-self : goal.invariant_of-self
invariant_of-self g c =
    let same = c.reserve.ensures.same in
    itself_marked g.met.M.Marking.sound (marked_same c.self.invariant c.reserve.new.self.vectors same.count same.bits)

pub returns-clause-digits : goal.returns-clause-digits
returns-clause-digits g c =
    let same = c.reserve.ensures.same in
    rw (← c.self.view_is) (sym (marked_digits g.met.M.Marking.sound (marked_same c.self.invariant c.reserve.new.self.vectors same.count same.bits)))
