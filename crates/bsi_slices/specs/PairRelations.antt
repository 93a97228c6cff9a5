-- Relations of two numbers, and one step of their decision from the least significant binary place up.
use Rattle.std.specs.Prelude.{ℕ, ◌||◌, Bool, not, nat_eq, nat_lt, nat_le, if◌then◌else◌}
use Rattle.bsi_bits.specs.BitList.{differ}
use Rattle.bsi_slices.specs.declared.pair_relation.PairRelation.{PairRelation}
use Rattle.bsi_slices.specs.declared.pair_relation.PairRelation.TheVariants.{Below, AtMost, Unequal}

-- the relation holds of the two numbers
abbrev pub relation_holds : PairRelation → ℕ → ℕ → Bool
relation_holds Below x y = nat_lt x y
relation_holds AtMost x y = nat_le x y
relation_holds Unequal x y = not (nat_eq x y)

-- one step of the decision: the relation holds of two numbers with most significant places a and b, where `before` is
-- the answer without those places
abbrev pub relation_bit_step : PairRelation → Bool → Bool → Bool → Bool
relation_bit_step Unequal a b before = before || differ a b
relation_bit_step Below a b before = if differ a b then b else before
relation_bit_step AtMost a b before = if differ a b then b else before
