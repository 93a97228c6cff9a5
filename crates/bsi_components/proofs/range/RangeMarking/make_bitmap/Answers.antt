use Rattle.std.proofs.Common.{map, ap, ◌∙◌}
use Rattle.std.specs.Prelude.{not}
use Rattle.bsi_components.specs.PlaceNumbers.{numbers_in}
use Rattle.bsi_components.proofs.PlaceNumbers.{upto_are}
use Rattle.bsi_components.proofs.range.RangeMarking.make_bitmap.Goals as goal

pub returns : goal.returns
returns c = c.flip.ensures.bits ∙ ap (map not) c.in_ok-rows.ensures ∙ upto_are c.args.j (numbers_in c.args.places.now)
