-- Relations of two numbers by their digits, one step for each digit from the least significant up.
use Rattle.std.specs.Prelude.{ℕ, Bool, nat_eq, if◌then◌else◌}
use Rattle.bsi_slices.specs.PairRelations.{relation_holds}
use Rattle.bsi_slices.specs.declared.pair_relation.PairRelation.{PairRelation}

-- one step: the relation holds of two numbers with digits x and y, where `low` is the answer for the digits below
abbrev pub relation_step : PairRelation → Bool → ℕ → ℕ → Bool
relation_step relation low x y = if nat_eq x y then low else relation_holds relation x y
