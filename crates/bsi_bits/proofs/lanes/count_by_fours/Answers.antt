use Rattle.std.proofs.Common.{◌≡◌, ◌+◌, ◌*◌, ◌<◌, length, take, arith, ap, sym, ◌∙◌}
use Rattle.std.specs.Prelude.{sum_by, count_ones, ◌/◌}
use Rattle.std.specs.Simd.Lanes.{zip2}
use Rattle.std.proofs.lemmas.Nat.{ones-le}
use Rattle.std.proofs.lemmas.Simd.{length-zip2, get_or-zip2}
use Rattle.bsi_bits.proofs.Pairs.{chunk-zip2}
use Rattle.bsi_bits.proofs.Summing.{summed_block, summed_word, summed_all}
use Rattle.bsi_bits.proofs.lanes.count_by_fours.Goals as goal

-- four words more
pub fours-preserved : goal.fours-preserved
fours-preserved g c =
    let made = zip2 g.O.Operation.word_of c.args.a.now c.args.b.now in
    let block = c.ones_in-ones.ensures.ones ∙ ap (sum_by count_ones) (c.words-words.ensures ∙ sym (chunk-zip2 g.O.Operation.word_of (4 * c.fours.k) 4 c.args.a.now c.args.b.now c.requires.same)) in
    record {
      counted = summed_block count_ones made (4 * c.fours.k) c.fours.ones c.fours.invariant.counted 4 (4 * (c.fours.k + 1)) c.ones_in-ones.result (omega arith) block;
      few = omega arith;
    }

-- the words of all fours
pub rest-init : goal.rest-init
rest-init g c =
    let same : 4 * c.fours.k ≡ 4 * (length c.args.a.now / 4) = omega arith in
    record {
      counted = c.fours.invariant.counted ∙ ap (λ i. sum_by count_ones (take i (zip2 g.O.Operation.word_of c.args.a.now c.args.b.now))) same;
      few = omega arith;
    }

-- one word more
pub rest-preserved : goal.rest-preserved
rest-preserved g c =
    let made = zip2 g.O.Operation.word_of c.args.a.now c.args.b.now in
    let within : c.rest.i < length made = omega (arith, c.requires.same, length-zip2 g.O.Operation.word_of c.args.a.now c.args.b.now c.requires.same) in
    let is = c.word.ensures ∙ sym (get_or-zip2 g.O.Operation.word_of c.args.a.now c.args.b.now c.rest.i 0 0 0 c.rest-test.true (omega (arith, c.requires.same))) in
    record {
      counted = summed_word count_ones made c.rest.i c.rest.ones c.rest.invariant.counted c.word.result within is;
      few = omega (arith, ones-le 64 c.word.result c.word.type_inv);
    }

-- no word is left
pub returns-clause-ones : goal.returns-clause-ones
returns-clause-ones g c =
    let made = zip2 g.O.Operation.word_of c.args.a.now c.args.b.now in
    summed_all count_ones made c.rest.i c.rest.ones c.rest.invariant.counted (omega (arith, length-zip2 g.O.Operation.word_of c.args.a.now c.args.b.now c.requires.same))
