use Rattle.std.proofs.Common.{◌≡◌, ℕ, ◌+◌, ◌-◌, ◌≤◌, ap, arith}
use Rattle.std.specs.Prelude.{◌==◌, ◌&&◌, nat_le, nat_lt}
use Rattle.std.proofs.lemmas.Bool.Decides.{nat_tests}
use Rattle.bsi_components.specs.Equality.{first_stored}
use Rattle.bsi_components.proofs.equality.EqualityMarking.marked_range.Goals as goal

first_stored_most : (base : ℕ) → first_stored base ≤ 1
first_stored_most base = grind (arith, nat_tests)

-- the bitmap of the digit is the one before place `to`, if there is one
own_digit : (digit first from to i : ℕ) → first ≤ 1 → to ≡ digit + 1 - first → from ≡ to - 1 → (digit == first + i) ≡ (nat_le from i && nat_lt i to)
own_digit digit first from to i least to_is from_is = grind (arith, nat_tests)

pub returns-clause-ones : goal.returns-clause-ones
returns-clause-ones c = λ i inside.
    own_digit c.args.digit (first_stored c.args.base) c.saturating_sub.result (c.args.digit + 1 - c.first_stored.result) i (first_stored_most c.args.base)
    (ap (λ f. c.args.digit + 1 - f) c.first_stored.ensures) c.saturating_sub.ensures
