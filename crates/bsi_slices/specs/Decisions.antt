-- What a comparison with a constant comes down to (`decides`): it selects no number, each number, or those that pass a
-- test (`passes`).
use Rattle.std.specs.Prelude.{ℕ, ◌<◌, Bool, true, false, not, if◌then◌else◌, nat_eq, nat_le}
use Rattle.bsi_slices.specs.declared.decision.Decision.{Decision}
use Rattle.bsi_slices.specs.declared.decision.Decision.TheVariants.{Nothing, Everything, Tested}
use Rattle.bsi_slices.specs.declared.decision.Relation.{Relation}
use Rattle.bsi_slices.specs.declared.decision.Relation.TheVariants.{Equal, AtMost}
use Rattle.bsi_slices.specs.declared.decision.Test.{Test}

-- the number is in the relation to the constant
abbrev pub relates : Relation → ℕ → ℕ → Bool
relates Equal number constant = nat_eq number constant
relates AtMost number constant = nat_le number constant

-- the answer, or its complement if the relation is expected not to hold
abbrev pub as_expected : Bool → Bool → Bool
as_expected expected answer = if expected then answer else not answer

-- the number passes the test
abbrev pub passes : Test → ℕ → Bool
passes test number = as_expected test.expected (relates test.relation number test.constant)

-- the decision selects the number
abbrev pub decides : Decision → ℕ → Bool
decides Nothing number = false
decides Everything number = true
decides (Tested test) number = passes test number

-- the constant of a test is below the size
abbrev pub IsBelowSize : Decision → ℕ → Type 0
IsBelowSize Nothing size = Unit {0}
IsBelowSize Everything size = Unit {0}
IsBelowSize (Tested test) size = test.constant < size
