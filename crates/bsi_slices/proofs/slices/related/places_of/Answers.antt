use Rattle.std.proofs.Common.{◌-◌, arith}
use Rattle.std.specs.Int.Count.{count_leading_zeros}
use Rattle.bsi_slices.proofs.Related.{places_enough, sum_enough}
use Rattle.bsi_slices.proofs.slices.related.places_of.Goals as goal

pub returns-clause-few : goal.returns-clause-few
returns-clause-few c =
    let wide = places_enough c.args.more c.args.more (omega arith) c.requires.more in
    omega (arith, c.max-2.ensures, c.max.ensures, wide.1, c.requires.few)

pub returns-clause-sums : goal.returns-clause-sums
returns-clause-sums c =
    let wide = places_enough c.args.more c.args.more (omega arith) c.requires.more in
    sum_enough c.args.slices (64 - count_leading_zeros 64 c.args.more) c.max-2.result c.args.more
    (omega (arith, c.max-2.ensures, c.max.ensures)) (omega (arith, c.max-2.ensures)) wide.0
