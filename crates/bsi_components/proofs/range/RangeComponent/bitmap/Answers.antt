use Rattle.std.proofs.Common.{◌≡◌, ℕ, ◌+◌, ◌∙◌, arith}
use Rattle.std.specs.Prelude.{nat_le, nat_lt}
use Rattle.std.proofs.lemmas.Bool.Decides.{nat_tests}
use Rattle.bsi_kernels.proofs.DigitMaps.{map_same}
use Rattle.bsi_components.proofs.range.RangeComponent.bitmap.Goals as goal

below_next : (j v : ℕ) → nat_lt v (j + 1) ≡ nat_le v j
below_next j v = grind (arith, nat_tests)

-- at most a digit is below the next one
pub returns : goal.returns
returns c = c.bitmap_of.ensures ∙ map_same (λ v. nat_lt v (c.args.j + 1)) (λ v. nat_le v c.args.j) (below_next c.args.j) c.args.self.now.digits
