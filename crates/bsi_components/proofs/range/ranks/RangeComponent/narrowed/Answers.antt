use Rattle.std.proofs.Common.{arith}
use Rattle.bsi_components.proofs.RankSearch.{between_high, between_low, count_upto}
use Rattle.bsi_components.proofs.range.ranks.RangeComponent.narrowed.Goals as goal

pub returns-then-rank-upto-clause-holds : goal.returns-then-rank-upto-clause-holds
returns-then-rank-upto-clause-holds c =
    let between = c.args.between in
    let selection = c.args.selection.now.bits in
    let digits = c.args.self.now.digits in
    let upto = c.count_and-upto.result in
    between_low c.args.self.now.base c.args.rank selection digits between.low between.high between.below c.args.d upto (omega arith) (omega arith)
    (count_upto c.args.self.now.base c.args.rank selection digits c.args.d upto c.bitmap.result.now.bits c.count_and-upto.ensures c.bitmap.ensures) c.requires.holds (omega arith)

pub returns-else-rank-upto-clause-holds : goal.returns-else-rank-upto-clause-holds
returns-else-rank-upto-clause-holds c =
    let between = c.args.between in
    let selection = c.args.selection.now.bits in
    let digits = c.args.self.now.digits in
    let upto = c.count_and-upto.result in
    between_high c.args.self.now.base c.args.rank selection digits between.low between.high between.below c.args.d upto (omega arith) (omega arith)
    (count_upto c.args.self.now.base c.args.rank selection digits c.args.d upto c.bitmap.result.now.bits c.count_and-upto.ensures c.bitmap.ensures) c.requires.holds (omega arith)
