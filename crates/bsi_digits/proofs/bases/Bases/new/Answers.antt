use Rattle.std.proofs.Common.{◌≡◌, ℕ, ◌<◌, ◌≤◌, List, sum, position, refl, sym, ◌∙◌, ap, arith}
use Rattle.std.proofs.lemmas.Bool.Decides.{nat_tests}
use Rattle.bsi_digits.specs.Digits.{max_size, product}
use Rattle.bsi_digits.specs.Refusal.{is_bad_base}
use Rattle.bsi_digits.proofs.Products.{product-reverse}
use Rattle.bsi_digits.proofs.Refusals.{IsPastSum, refusal_is_none, refusal_is_large}
use Rattle.bsi_digits.proofs.bases.Bases.new.Goals as goal
use Rattle.bsi_digits.proofs.bases.Bases.new.Goals.{After-weights}

-- every test but that of the product is passed
past_sum : (c : After-weights) → IsPastSum c.args.bases.items
past_sum c =
    let same_sum : sum c.deref-2.result.now ≡ sum c.args.bases.items = ap (λ (xs : List ℕ). sum xs) c.deref-2.ensures.value in
    record {
      some = grind (arith, nat_tests);
      few = omega arith;
      good = ap (λ (xs : List ℕ). position is_bad_base xs) (sym c.deref.ensures.value) ∙ sym c.bad_base_at.ensures.position ∙ c.in_default.is;
      narrow = omega arith;
    }

-- the product of the bases turned round is theirs
turned : (c : After-weights) → product c.deref-3.result.now ≡ product c.args.bases.items
turned c =
    ap (λ (xs : List ℕ). product xs) (c.deref-3.ensures.value ∙ c.reverse.ensures.items) ∙ product-reverse c.args.bases.items

pub returns-in-None-clause-refused : goal.returns-in-None-clause-refused
returns-in-None-clause-refused c =
    let at = (goal.at.returns-in-None-clause-refused c).After-weights in
    let over : max_size < product c.deref-3.result.now = c.in-None.ensures.none.0 refl in
    sym (refusal_is_large c.args.bases.items (past_sum at) (omega (arith, turned at)))

pub returns-in-Some-weights-clause-refused : goal.returns-in-Some-weights-clause-refused
returns-in-Some-weights-clause-refused c =
    let at = (goal.at.returns-in-Some-weights-clause-refused c).After-weights in
    let small : product c.deref-3.result.now ≤ max_size = grind (arith, c.in-Some-weights.ensures.none.1) in
    sym (refusal_is_none c.args.bases.items (past_sum at) (omega (arith, turned at)))
