use Rattle.std.proofs.Common.{ℕ, ◌*◌, ◌/◌, ◌^◌, ◌∙◌, ap}
use Rattle.bsi_digits.specs.Divisor.{reciprocal_of}
use Rattle.bsi_digits.proofs.Reciprocals.{quotient_by_reciprocal}
use Rattle.bsi_digits.proofs.divisor.Divisor.quotient.Goals as goal

-- what is kept is the divisor's reciprocal and shift
pub returns : goal.returns
returns c =
    let v : ℕ = c.args.v in
    let d : ℕ = c.self.inside.divisor in
    ap (λ n. n * c.from-2.result / 2 ^ 63 / 2 ^ c.self.inside.shift) c.from.ensures ∙
    ap (λ n. v * n / 2 ^ 63 / 2 ^ c.self.inside.shift) (c.from-2.ensures ∙ c.self.invariant.reciprocal_is) ∙
    ap (λ n. v * reciprocal_of d / 2 ^ 63 / 2 ^ n) c.self.invariant.shift_is ∙
    quotient_by_reciprocal v d c.self.invariant.some c.self.invariant.small c.requires ∙
    ap (λ n. v / n) c.self.view_is
