use Rattle.std.proofs.Common.{sym, refl}
use Rattle.bsi_components.proofs.MarkedDigits.{marked_same, marked_digits, itself_marked}
use Rattle.bsi_components.proofs.component.encoding.ComponentEncoding.copy.Goals as goal

pub invariant_of-result : goal.invariant_of-result
invariant_of-result g c =
    let same = c.in_ok-bitmaps.ensures.same in
    itself_marked g.met.M.Marking.sound (marked_same c.self.invariant c.in_ok-bitmaps.bitmaps.vectors same.count same.bits)

pub returns : goal.returns
returns g c =
    let same = c.in_ok-bitmaps.ensures.same in
    rw (← c.self.view_is) (sym (marked_digits g.met.M.Marking.sound (marked_same c.self.invariant c.in_ok-bitmaps.bitmaps.vectors same.count same.bits)), refl)
