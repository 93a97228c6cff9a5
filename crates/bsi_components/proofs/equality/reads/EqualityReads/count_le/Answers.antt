use Rattle.std.proofs.Common.{◌∙◌, sym, arith}
use Rattle.bsi_components.proofs.EqualityReads.{among_first, among_last}
use Rattle.bsi_components.proofs.equality.reads.EqualityReads.count_le.Goals as goal

pub returns-then-d-base : goal.returns-then-d-base
returns-then-d-base c = c.count_among.ensures ∙ among_first c.args.selection.now.bits c.args.component.now.digits c.args.d

-- the rows past the digit are some of the found ones, and the others have it or a lower one
pub overflow_sub-result : goal.overflow_sub-result
overflow_sub-result c =
    let all = among_last c.args.selection.now.bits c.args.component.now.digits c.args.d c.own_base-base.result (omega arith) (sym c.requires.same) (λ k. let below = c.own_base-base.ensures.below k in omega arith) in
    omega (arith, all, c.count.ensures, c.count_among-else-d-base.ensures)

pub returns-else-d-base : goal.returns-else-d-base
returns-else-d-base c =
    let all = among_last c.args.selection.now.bits c.args.component.now.digits c.args.d c.own_base-base.result (omega arith) (sym c.requires.same) (λ k. let below = c.own_base-base.ensures.below k in omega arith) in
    omega (arith, all, c.count.ensures, c.count_among-else-d-base.ensures)
