use Rattle.std.proofs.Common.{◌+◌, ◌*◌, ◌&&◌, false, get_or, ap, ◌∙◌, arith}
use Rattle.bsi_columns.proofs.decomposed.extremes.rows_into.Goals as goal

pub returns-clause-bits : goal.returns-clause-bits
returns-clause-bits c = λ p below.
    c.and_assign.ensures.bits p (omega (arith, below, c.assign.ensures.len))
    ∙ ap (λ b. b && get_or c.args.not_null.now.bits (64 * c.args.at + p) false) (c.assign.ensures.bits p below)
