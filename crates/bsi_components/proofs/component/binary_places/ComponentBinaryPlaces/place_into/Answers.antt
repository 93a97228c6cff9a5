use Rattle.std.proofs.Common.{◌-◌, ◌∙◌, arith}
use Rattle.std.specs.Prelude.{◌==◌}
use Rattle.bsi_kernels.specs.Places.{has_place}
use Rattle.bsi_kernels.proofs.DigitMaps.{same_tests}
use Rattle.bsi_components.proofs.component.binary_places.ComponentBinaryPlaces.place_into.Goals as goal

pub returns-then-is_empty : goal.returns-then-is_empty
returns-then-is_empty g c =
    let digits = c.args.self.now.digits in
    let d = c.digit_of_place.result in
    c.eq_into.ensures.bits
    ∙ same_tests (λ v. v == d) (has_place c.args.k) (c.base.result - 1) (λ v most. c.digit_of_place.ensures.same v (omega (arith, most, c.base.ensures.within.0)))
    digits (λ i. omega (arith, c.base.ensures.below i, c.base.ensures.base))
