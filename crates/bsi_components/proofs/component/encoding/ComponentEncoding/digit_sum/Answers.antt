use Rattle.std.proofs.Common.{length, ap, ◌∙◌, arith}
use Rattle.std.proofs.lemmas.List.{length-map}
use Rattle.std.proofs.lemmas.Bool.Decides.{nat_tests}
use Rattle.bsi_kernels.specs.Places.{has_place}
use Rattle.bsi_components.proofs.component.encoding.ComponentEncoding.digit_sum.Goals as goal

-- a place has a bit for each digit
pub sum_by_places-requires-clause-same : goal.sum_by_places-requires-clause-same
sum_by_places-requires-clause-same g c = λ k within.
    ap length (c.places-places.ensures.places.each k within) ∙ length-map c.args.self.now.digits (has_place k) ∙ c.requires

-- and each digit is below two to the power of the number of places
pub returns-else-is_empty : goal.returns-else-is_empty
returns-else-is_empty g c =
    c.sum_by_places.ensures c.args.self.now.digits c.places-places.ensures.places (c.places-places.ensures.below (grind (arith, nat_tests, c.is_empty.ensures, c.if-is_empty.false))) c.requires
