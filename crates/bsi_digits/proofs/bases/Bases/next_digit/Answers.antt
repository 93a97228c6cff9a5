use Rattle.std.proofs.Common.{◌≡◌, ◌+◌, ◌*◌, ◌/◌, ◌<◌, slice_index, ap, ◌∙◌, arith}
use Rattle.bsi_digits.specs.Digits.{digit_of}
use Rattle.bsi_digits.proofs.Parts.{high_parts, digit_below}
use Rattle.bsi_digits.proofs.bases.Bases.next_digit.Goals as goal
use Rattle.bsi_digits.proofs.bases.Bases.next_digit.Goals.{After-from}

-- the part from the component on is that above it, times the base, and the digit
parts : (c : After-from) → c.args.from_here ≡ c.quotient-above.result * c.from.result + digit_of c.args.self.now c.args.v c.args.i
parts c =
    high_parts c.divisor.ensures.valid c.args.v c.args.i c.args.from_here c.quotient-above.result c.from.result
    c.requires.within c.requires.from
    (c.quotient-above.ensures ∙ ap (λ w. c.args.v / w) c.divisor.ensures.weight) (c.from.ensures ∙ c.base.ensures.base)

below : (c : After-from) → digit_of c.args.self.now c.args.v c.args.i < slice_index c.args.self.now c.args.i
below c = digit_below c.divisor.ensures.valid c.args.v c.args.i c.requires.within

pub overflow_mul-digit : goal.overflow_mul-digit
overflow_mul-digit c = omega (arith, parts (goal.at.overflow_mul-digit c).After-from)

pub overflow_sub-digit : goal.overflow_sub-digit
overflow_sub-digit c = omega (arith, parts (goal.at.overflow_sub-digit c).After-from)

pub overflow_cast-result : goal.overflow_cast-result
overflow_cast-result c =
    let at = (goal.at.overflow_cast-result c).After-from in
    omega (arith, parts at, below at)

pub returns-clause-digit : goal.returns-clause-digit
returns-clause-digit c = omega (arith, parts (goal.at.returns-clause-digit c).After-from)

pub returns-clause-below : goal.returns-clause-below
returns-clause-below c =
    let at = (goal.at.returns-clause-below c).After-from in
    omega (arith, parts at, below at)
