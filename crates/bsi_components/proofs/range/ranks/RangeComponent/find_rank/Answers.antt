use Rattle.std.proofs.Common.{sym, subst, arith}
use Rattle.bsi_components.specs.Ranks.{IsBetween}
use Rattle.bsi_components.specs.declared.range.ranks.DigitRange.{DigitRange}
use Rattle.bsi_components.proofs.RankSearch.{between_all, few_ranks}
use Rattle.bsi_components.proofs.range.ranks.RangeComponent.find_rank.Goals as goal
use Rattle.bsi_components.proofs.range.ranks.RangeComponent.find_rank.Goals.{in-Some, in_default}

pub likely_digit-requires-clause-few : goal.likely_digit-requires-clause-few
likely_digit-requires-clause-few c =
    omega (arith, few_ranks c.args.self.now.base c.args.rank c.args.selection.now.bits c.args.self.now.digits c.requires.there, c.len.ensures.len, c.len.ensures.within)

-- the digit of the rank is one of all
pub narrowed-between-requires-clause-holds : goal.narrowed-between-requires-clause-holds
narrowed-between-requires-clause-holds c =
    between_all c.args.self.now.base c.args.rank c.args.selection.now.bits c.args.self.now.digits c.top.result c.top.ensures.base c.requires.same c.top.ensures.most c.requires.there

-- also after the counts near a likely digit
pub digits-init : goal.digits-init
digits-init c =
    let IsNarrowed : DigitRange → Type 0 = λ b. IsBetween c.args.self.now.base c.args.rank c.args.selection.now.bits c.args.self.now.digits b.low b.high b.below in
    let all = between_all c.args.self.now.base c.args.rank c.args.selection.now.bits c.args.self.now.digits c.top.result c.top.ensures.base c.requires.same c.top.ensures.most c.requires.there in
    elim c.match-likely_digit.branch [
      | in-Some w ↦ subst IsNarrowed (sym w.between-is) w.narrowed-between-in-Some-2.ensures.holds
      | in_default w ↦ subst IsNarrowed (sym w.between-is) all
    ]
