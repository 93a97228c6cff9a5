use Rattle.std.proofs.Common.{◌<◌, length, arith}
use Rattle.std.proofs.lemmas.Bool.Decides.{nat_tests}
use Rattle.bsi_components.proofs.equality.reads.EqualityReads.le_span.Goals as goal

-- there are places, and they are enough for the digits
pub order_by_places-requires-clause-below : goal.order_by_places-requires-clause-below
order_by_places-requires-clause-below c =
    let some : 0 < length c.places-places.result.now = grind (arith, nat_tests, c.is_empty.ensures, c.if-not-is_empty.true) in
    omega (arith, c.places-places.ensures.enough some, c.requires.below, c.from.ensures)
