use Rattle.std.proofs.Common.{map, not, ap, ap₂, ◌∙◌, arith}
use Rattle.std.specs.Simd.Lanes.{zip2}
use Rattle.bsi_bits.specs.BitList.{without}
use Rattle.bsi_components.proofs.RangeReads.{top_eq, between_eq}
use Rattle.bsi_components.proofs.range.reads.RangeReads.eq_into.Goals as goal

pub returns-then-d-top-clause-bits : goal.returns-then-d-top-clause-bits
returns-then-d-top-clause-bits c =
    c.flip.ensures.bits ∙ ap (map not) (c.copy_from.ensures.bits ∙ c.bitmap.ensures)
    ∙ top_eq c.args.d c.args.component.now.digits (omega arith) (λ k. let most = c.top.ensures.most k in omega arith)

pub returns-then-d-gt0-clause-bits : goal.returns-then-d-gt0-clause-bits
returns-then-d-gt0-clause-bits c =
    c.and_not_with.ensures.bits ∙ ap₂ (zip2 without) (c.copy_from-else-d-top.ensures.bits ∙ c.bitmap-else-d-top.ensures) c.bitmap-then-d-gt0.ensures
    ∙ between_eq c.args.d c.args.component.now.digits (omega arith)
