use Rattle.std.proofs.Common.{◌+◌, ◌-◌, sym, ap, ◌∙◌, arith, rules}
use Rattle.std.specs.Prelude.{sum_by, count_ones}
use Rattle.std.specs.Simd.Lanes.{zip2}
use Rattle.std.proofs.lemmas.Simd.{length-zip2}
use Rattle.bsi_bits.proofs.Pairs.{chunk-zip2}
use Rattle.bsi_bits.proofs.Summing.{summed_block, summed_all}
use Rattle.bsi_bits.proofs.lanes.count_combined.Goals as goal

-- a part more
pub chunks-preserved : goal.chunks-preserved
chunks-preserved g c =
    let end = c.chunks.at + c.min.result in
    let made = zip2 g.O.Operation.word_of c.args.a.now c.args.b.now in
    let block = c.count_few_combined.ensures.ones ∙ ap (sum_by count_ones) (sym (chunk-zip2 g.O.Operation.word_of c.chunks.at (end - c.chunks.at) c.args.a.now c.args.b.now c.requires)) in
    record {
      within = search rules;
      counted = summed_block count_ones made c.chunks.at c.chunks.ones c.chunks.invariant.counted (end - c.chunks.at) end c.count_few_combined.result (omega arith) block;
      few = omega (arith, c.count_few_combined.ensures.few);
    }

-- no word is left
pub returns-clause-ones : goal.returns-clause-ones
returns-clause-ones g c =
    let made = zip2 g.O.Operation.word_of c.args.a.now c.args.b.now in
    summed_all count_ones made c.chunks.at c.chunks.ones c.chunks.invariant.counted (omega (arith, length-zip2 g.O.Operation.word_of c.args.a.now c.args.b.now c.requires))
