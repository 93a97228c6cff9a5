use Rattle.std.proofs.Common.{◌≡◌, ℕ, ◌≤◌, false, arith}
use Rattle.std.specs.Prelude.{nat_lt}
use Rattle.std.proofs.lemmas.Bool.Decides.{nat_tests}
use Rattle.bsi_slices.proofs.FromPlaces.{all_counted}
use Rattle.bsi_slices.proofs.not_null.NotNull.from_bits.Goals as goal

not_less : (m n : ℕ) → nat_lt m n ≡ false → n ≤ m
not_less m n off = grind (arith, nat_tests)

pub invariant_of-result : goal.invariant_of-result
invariant_of-result c = λ none. all_counted c.args.bits.bits (omega (arith, not_less c.count.result c.len.result none, c.count.ensures, c.len.ensures.len))
