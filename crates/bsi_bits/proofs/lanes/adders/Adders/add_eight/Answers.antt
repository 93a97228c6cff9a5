use Rattle.std.proofs.Common.{arith}
use Rattle.std.specs.Prelude.{count_ones}
use Rattle.std.specs.Simd.Lanes.{zip2}
use Rattle.bsi_bits.proofs.Adding.{chunk_added}
use Rattle.bsi_bits.proofs.lanes.adders.Adders.add_eight.Goals as goal

-- the block is those of both calls
pub returns-clause-added : goal.returns-clause-added
returns-clause-added g c =
    let made = zip2 g.O.Operation.word_of c.args.a.now c.args.b.now in
    omega (arith, chunk_added count_ones c.args.at 16 16 made, c.add_four-first.ensures.added, c.add_four-second.ensures.added, c.add-added.ensures.added)

pub returns-clause-few : goal.returns-clause-few
returns-clause-few g c =
    let made = zip2 g.O.Operation.word_of c.args.a.now c.args.b.now in
    omega (arith, chunk_added count_ones c.args.at 16 16 made, c.add_four-first.ensures.few, c.add_four-second.ensures.few)
