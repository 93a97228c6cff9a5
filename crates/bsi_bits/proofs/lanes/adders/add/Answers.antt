use Rattle.std.proofs.Common.{arith}
use Rattle.bsi_bits.proofs.Adding.{few_ones, lists_added}
use Rattle.bsi_bits.proofs.lanes.adders.add.Goals as goal

pub returns-clause-added : goal.returns-clause-added
returns-clause-added c =
    let lanes = c.fits-a.0 in
    let others = c.fits-b.0 in
    let last = c.fits-c.0 in
    lists_added c.args.a c.args.b c.args.c (omega arith) (omega arith)

pub returns-clause-few : goal.returns-clause-few
returns-clause-few c =
    let others = c.fits-b.0 in
    let last = c.fits-c.0 in
    omega (arith, few_ones c.args.b c.fits-b.1, few_ones c.args.c c.fits-c.1)
