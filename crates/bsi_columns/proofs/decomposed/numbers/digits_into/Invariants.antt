use Rattle.bsi_columns.proofs.NumberBlocks.{AreDigitPlaces}
use Rattle.bsi_columns.proofs.decomposed.numbers.digits_into.Given as goal

-- the words of the places so far
abbrev pub invariant-places : goal.invariant-places
invariant-places g l = AreDigitPlaces (g.E.Encoding.digits l.component) l.at l.k l.digits
