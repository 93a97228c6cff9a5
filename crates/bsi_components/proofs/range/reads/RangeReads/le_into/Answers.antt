use Rattle.std.proofs.Common.{map, not, ap, ap₂, ◌∙◌, arith}
use Rattle.std.specs.Prelude.{◌||◌, nat_le}
use Rattle.std.specs.Simd.Lanes.{zip2}
use Rattle.bsi_components.proofs.RangeReads.{top_le}
use Rattle.bsi_components.proofs.range.reads.RangeReads.le_into.Goals as goal

pub returns-else-d-top-clause-bits : goal.returns-else-d-top-clause-bits
returns-else-d-top-clause-bits c =
    c.or_with.ensures.bits ∙ ap₂ (zip2 ◌||◌) (c.flip.ensures.bits ∙ ap (map not) (c.copy_from-else-d-top.ensures.bits ∙ c.bitmap-else-d-top.ensures)) c.bitmap-else-d-top-2.ensures
    ∙ top_le (λ v. nat_le v 0) c.args.d c.args.component.now.digits (λ k. let most = c.top-top.ensures.most k in omega arith)
