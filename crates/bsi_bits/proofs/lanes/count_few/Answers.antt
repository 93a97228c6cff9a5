use Rattle.std.proofs.Common.{◌≡◌, ◌*◌, ◌≤◌, length, get_or, arith, ap, refl, ◌∙◌}
use Rattle.std.specs.Prelude.{count_ones, ◌/◌}
use Rattle.std.proofs.lemmas.Nat.{ones-le}
use Rattle.bsi_bits.proofs.Summing.{quarters, quarters_more, quarters_all, summed_word, summed_all}
use Rattle.bsi_bits.proofs.lanes.count_few.Goals as goal

-- one word more of each quarter
pub fours-preserved : goal.fours-preserved
fours-preserved c =
    let quarter = length c.args.a.now / 4 in
    let within : 4 * quarter ≤ length c.args.a.now = omega arith in
    record {
      counted = omega (arith, c.fours.invariant.counted, c.ones_in-ones.ensures.ones, quarters_more count_ones c.args.a.now quarter within c.fours.k c.fours-test.true);
      few = omega arith;
    }

-- the whole quarters
pub rest-init : goal.rest-init
rest-init c =
    let quarter = length c.args.a.now / 4 in
    let within : 4 * quarter ≤ length c.args.a.now = omega arith in
    let same : c.fours.k ≡ quarter = omega arith in
    record {
      counted = c.fours.invariant.counted ∙ ap (quarters count_ones c.args.a.now quarter) same ∙ quarters_all count_ones c.args.a.now quarter within;
      few = omega arith;
    }

-- one word more
pub rest-preserved : goal.rest-preserved
rest-preserved c = record {
  counted = summed_word count_ones c.args.a.now c.rest.i c.rest.ones c.rest.invariant.counted (get_or c.args.a.now c.rest.i 0) c.rest-test.true refl;
  few = omega (arith, ones-le 64 (get_or c.args.a.now c.rest.i 0) (c.type_inv.a c.rest.i).fits);
}

-- no word is left
pub returns-clause-ones : goal.returns-clause-ones
returns-clause-ones c = summed_all count_ones c.args.a.now c.rest.i c.rest.ones c.rest.invariant.counted (omega arith)
