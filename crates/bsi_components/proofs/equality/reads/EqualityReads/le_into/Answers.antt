use Rattle.std.proofs.Common.{map, not, ap, ap₂, ◌∙◌, arith}
use Rattle.std.specs.Prelude.{◌||◌, ◌==◌}
use Rattle.std.specs.Simd.Lanes.{zip2}
use Rattle.bsi_components.proofs.EqualityReads.{past_le}
use Rattle.bsi_components.proofs.RangeReads.{top_le}
use Rattle.bsi_components.proofs.equality.reads.EqualityReads.le_into.Goals as goal

-- none of the digits past it
pub returns-then-d-base-2-clause-bits : goal.returns-then-d-base-2-clause-bits
returns-then-d-base-2-clause-bits c =
    c.flip.ensures.bits ∙ ap (map not) c.among_into-then-d-base-2.ensures.bits
    ∙ past_le c.args.d c.own_base-base.result c.args.component.now.digits (omega arith) (λ k. let below = c.own_base-base.ensures.below k in omega arith)

-- the greatest digit: every row
pub returns-else-d-base-2-clause-bits : goal.returns-else-d-base-2-clause-bits
returns-else-d-base-2-clause-bits c =
    c.or_with.ensures.bits ∙ ap₂ (zip2 ◌||◌) (c.flip-else-d-base-2.ensures.bits ∙ ap (map not) (c.copy_from.ensures.bits ∙ c.bitmap.ensures)) c.bitmap-else-d-base-2.ensures
    ∙ top_le (λ v. v == 1) c.args.d c.args.component.now.digits (λ k. let below = c.own_base-base.ensures.below k in omega arith)
