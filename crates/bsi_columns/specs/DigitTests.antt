-- Tests of a number by its digits, one step for each digit from the least significant up.
use Rattle.std.specs.Prelude.{ℕ, Bool, false, ◌&&◌, Option, Some, None, nat_eq}
use Rattle.bsi_slices.specs.Decisions.{as_expected, relates}
use Rattle.bsi_slices.specs.declared.decision.Relation.{Relation}
use Rattle.bsi_slices.specs.declared.decision.Relation.TheVariants.{Equal, AtMost}
use Rattle.bsi_slices.specs.declared.decision.Test.{Test}
use Rattle.bsi_kernels.specs.Places.{at_most_step}

-- one step: the number is in the relation to the constant, where `low` is the answer for the digits below
abbrev pub relates_step : Relation → Bool → ℕ → ℕ → Bool
relates_step Equal low digit constant = low && nat_eq digit constant
relates_step AtMost low digit constant = at_most_step low digit constant

-- the entry is a number, and the test of the number has the expected answer
abbrev pub answers : (ℕ → Bool) → Bool → Option ℕ → Bool
answers passes expected None = false
answers passes expected (Some x) = as_expected expected (passes x)

-- the entry is a number that passes the test
abbrev pub passes_entry : Test → Option ℕ → Bool
passes_entry test = answers (λ x. relates test.relation x test.constant) test.expected
