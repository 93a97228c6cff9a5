use Rattle.std.proofs.Common.{◌+◌, ◌∷◌, [], length, length-append, map, ap, ◌∙◌}
use Rattle.bsi_components.specs.PlaceNumbers.{numbers_in}
use Rattle.bsi_components.proofs.PlaceNumbers.{bits_pushed}
use Rattle.bsi_components.proofs.building.make_bitmaps.Goals as goal

pub digits-preserved : goal.digits-preserved
digits-preserved g c =
    let ns = numbers_in c.args.places.now in
    let so_far = c.digits.invariant in
    let made = c.in_ok-make_bitmap.field-0 in
    record {
      long = ap length c.push_reserved.ensures.items ∙ length-append c.digits.made.items (made ∷ []) ∙ ap (λ n. n + 1) so_far.long;
      room = c.push_reserved.ensures.capacity ∙ so_far.room;
      bits = bits_pushed c.digits.made.items c.push_reserved.new.self.items made (λ i. map (g.M.Marking.marks (g.M.Marking.first c.args.base + i)) ns) c.digits.j
          c.push_reserved.ensures.items so_far.long so_far.bits c.in_ok-make_bitmap.ensures;
    }
