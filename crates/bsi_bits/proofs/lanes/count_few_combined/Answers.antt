use Rattle.std.proofs.Common.{◌+◌, ◌*◌, ◌-◌, length, take, drop, ap, sym, ◌∙◌, arith}
use Rattle.std.specs.Prelude.{sum_by, count_ones, ◌/◌}
use Rattle.std.specs.Simd.Lanes.{zip2}
use Rattle.std.proofs.lemmas.Simd.{length-zip2}
use Rattle.bsi_bits.proofs.Pairs.{chunk-zip2}
use Rattle.bsi_bits.proofs.Summing.{summed_block, summed_all}
use Rattle.bsi_bits.proofs.lanes.count_few_combined.Goals as goal

-- the blocks, and the words behind them
pub returns-clause-ones : goal.returns-clause-ones
returns-clause-ones g c =
    let a = c.args.a.now in
    let b = c.args.b.now in
    let whole = 64 * (length a / 64) in
    let left = length a - whole in
    let made = zip2 g.O.Operation.word_of a b in
    let after = c.count_by_fours-2.ensures.ones
    ∙ ap (λ n. sum_by count_ones (zip2 g.O.Operation.word_of (take left (drop whole a)) (take (n - whole) (drop whole b)))) (sym c.requires.same)
    ∙ ap (sum_by count_ones) (sym (chunk-zip2 g.O.Operation.word_of whole left a b c.requires.same)) in
    let both = summed_block count_ones made whole c.count_blocks.result c.count_blocks.ensures.ones left (length a) c.count_by_fours-2.result (omega arith) after in
    summed_all count_ones made (length a) (c.count_blocks.result + c.count_by_fours-2.result) both
    (omega (arith, length-zip2 g.O.Operation.word_of a b c.requires.same))
