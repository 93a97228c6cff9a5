use Rattle.std.proofs.Common.{◌≡◌, ◌+◌, ◌*◌, ◌≤◌, refl, ◌∙◌, arith}
use Rattle.std.proofs.lemmas.Nat.{mul-le}
use Rattle.bsi_digits.specs.Digits.{weight, product}
use Rattle.bsi_digits.proofs.Products.{product-take_le}
use Rattle.bsi_digits.proofs.WeightLists.{weights_more, next_weight}
use Rattle.bsi_digits.proofs.bases.weights.Goals as goal
use Rattle.bsi_digits.proofs.bases.weights.Goals.{After-from-in-loop-i-2}

next : (c : After-from-in-loop-i-2) → c.from.result * c.from-in-loop-i.result ≡ weight c.args.bases.now (c.loop-i.i + 1)
next c =
    next_weight c.args.bases.now c.loop-i.i c.loop-i.weight c.from.result c.from-in-loop-i.result c.loop-i-test.true
    c.loop-i.invariant.last c.from.ensures c.from-in-loop-i.ensures

-- the product so far, which is over the limit, is no more than the whole
pub returns-then-next-from-clause-none : goal.returns-then-next-from-clause-none
returns-then-next-from-clause-none c =
    let over = next (goal.at.returns-then-next-from-clause-none c).After-from-in-loop-i-2 in
    let whole : weight c.args.bases.now (c.loop-i.i + 1) ≤ product c.args.bases.now =
    product-take_le c.args.bases.now (c.loop-i.i + 1) c.requires.each in
    ((λ _. omega arith), (λ _. refl))

pub loop-i-preserved : goal.loop-i-preserved
loop-i-preserved c =
    let last = next (goal.at.loop-i-preserved c).After-from-in-loop-i-2 in
    let each = c.requires.each c.loop-i.i c.loop-i-test.true in
    let positive : 1 * 1 ≤ c.from.result * c.from-in-loop-i.result =
    mul-le 1 1 c.from.result c.from-in-loop-i.result (omega arith) (omega arith) in
    record {
      each = weights_more c.args.bases.now c.loop-i.divisors c.loop-i.i c.new.result (omega arith) c.loop-i.invariant.each
          (c.new.ensures ∙ last);
      last = last;
      some = omega arith;
      small = omega arith;
    }
