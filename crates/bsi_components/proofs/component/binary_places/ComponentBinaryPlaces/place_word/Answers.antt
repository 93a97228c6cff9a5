use Rattle.std.proofs.Common.{◌<◌, length, rules}
use Rattle.bsi_components.proofs.PlaceReads.{place_bit}
use Rattle.bsi_components.proofs.component.binary_places.ComponentBinaryPlaces.place_word.Goals as goal

pub returns-then-not-is_empty : goal.returns-then-not-is_empty
returns-then-not-is_empty g c = λ r near row.
    let some : 0 < length c.places-places.result.now = search rules in
    place_bit c.places-places.result.now c.args.self.now.digits c.args.self.now.base c.args.k c.index-places-k.result
    c.places-places.ensures.places c.places-places.ensures.many some c.requires.within c.index-places-k.is c.args.at r c.words.result.now c.words.ensures.places near row
