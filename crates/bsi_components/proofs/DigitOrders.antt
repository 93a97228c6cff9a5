-- How a digit decides a comparison.
use Rattle.std.proofs.Common.{◌≡◌, ℕ, true, arith}
use Rattle.std.specs.Prelude.{nat_le}
use Rattle.std.proofs.lemmas.Bool.Decides.{nat_tests}
use Rattle.bsi_kernels.specs.Places.{at_most_step}

-- where no digit stands below, a digit alone decides
pub at_most_first : (v d : ℕ) → at_most_step true v d ≡ nat_le v d
at_most_first v d = grind (arith, nat_tests)
