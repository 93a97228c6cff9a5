use Rattle.std.proofs.Common.{◌+◌, ◌*◌, ◌<◌, length, ◌∙◌, rules}
use Rattle.bsi_components.proofs.PlaceReads.{place_read}
use Rattle.bsi_components.proofs.component.binary_places.ComponentBinaryPlaces.place_span.Goals as goal

pub returns-else-is_empty : goal.returns-else-is_empty
returns-else-is_empty g c = λ p below row.
    let some : 0 < length c.places-places.result.now = search rules in
    c.assign.ensures.bits p below
    ∙ place_read c.places-places.result.now c.args.self.now.digits c.args.self.now.base c.args.k c.index-places-k.result
    c.places-places.ensures.places c.places-places.ensures.many some c.requires.place c.index-places-k.is (64 * c.args.at + p) row
