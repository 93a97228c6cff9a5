use Rattle.std.proofs.Common.{◌+◌, ◌*◌, take, refl, arith}
use Rattle.std.specs.Prelude.{sum_by, count_ones}
use Rattle.std.specs.Simd.Lanes.{zip2, chunk}
use Rattle.bsi_bits.proofs.Adding.{chunk_added}
use Rattle.bsi_bits.proofs.Summing.{summed_block}
use Rattle.bsi_bits.proofs.lanes.adders.count_blocks.Goals as goal

-- a block more: the words of the adders, and the single ones
pub chunks-preserved : goal.chunks-preserved
chunks-preserved g c =
    let made = zip2 g.O.Operation.word_of c.args.a.now c.args.b.now in
    let at = 64 * c.chunks.k in
    let block = chunk_added count_ones at 32 32 made in
    let all = summed_block count_ones made at (sum_by count_ones (take at made)) refl 64 (64 * (c.chunks.k + 1)) (sum_by count_ones (chunk at 64 made)) (omega arith) refl in
    record {
      counted = omega (arith, c.chunks.invariant.counted, c.count_singly-singles.ensures.ones, c.add_eight.ensures.added, c.ones_in-eights.ensures.ones, block, all);
      few = omega (arith, c.chunks.invariant.few, c.count_singly-singles.ensures.few, c.add_eight.ensures.added, c.add_eight.ensures.few, c.ones_in-eights.ensures.ones);
    }
