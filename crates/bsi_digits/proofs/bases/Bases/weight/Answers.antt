use Rattle.std.proofs.Common.{◌≡◌, ◌≤◌, ◌∙◌, arith}
use Rattle.bsi_digits.specs.Digits.{weight, product}
use Rattle.bsi_digits.proofs.Parts.{weight_pos, weight_le_size}
use Rattle.bsi_digits.proofs.bases.Bases.weight.Goals as goal

-- a weight is a product of bases, and the size is the product of all
pub returns-clause-within : goal.returns-clause-within
returns-clause-within c =
    let each : c.value.result ≡ weight c.args.self.now c.args.i = c.value.ensures ∙ c.divisor.ensures.weight in
    let positive : 1 ≤ weight c.args.self.now c.args.i = weight_pos c.divisor.ensures.valid c.args.i in
    let bounded : weight c.args.self.now c.args.i ≤ product c.args.self.now = weight_le_size c.divisor.ensures.valid c.args.i in
    (omega arith, omega arith)
