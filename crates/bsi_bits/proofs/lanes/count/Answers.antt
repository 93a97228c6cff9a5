use Rattle.std.proofs.Common.{◌+◌, ◌-◌, arith, rules}
use Rattle.std.specs.Prelude.{count_ones}
use Rattle.bsi_bits.proofs.Summing.{summed_block}
use Rattle.bsi_bits.proofs.lanes.count.Goals as goal

-- a part more
pub chunks-preserved : goal.chunks-preserved
chunks-preserved c =
    let end = c.chunks.at + c.min.result in
    record {
      within = search rules;
      counted = summed_block count_ones c.args.a.now c.chunks.at c.chunks.ones c.chunks.invariant.counted (end - c.chunks.at) end c.count_few.result (omega arith) c.count_few.ensures.ones;
      few = omega (arith, c.count_few.ensures.few);
    }
