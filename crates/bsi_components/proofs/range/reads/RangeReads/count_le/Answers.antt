use Rattle.std.proofs.Common.{ap, sym, ◌∙◌, arith}
use Rattle.std.specs.Prelude.{count_by, nat_le, ◌&&◌}
use Rattle.std.specs.Simd.Lanes.{zip2}
use Rattle.bsi_bits.proofs.Pairs.{zip2-map_right}
use Rattle.bsi_components.proofs.DigitCounts.{where_all}
use Rattle.bsi_components.proofs.range.reads.RangeReads.count_le.Goals as goal

pub returns-then-d-top : goal.returns-then-d-top
returns-then-d-top c =
    let selection = c.args.selection.now.bits in
    c.count_and.ensures ∙ ap (λ bits. count_by (λ b. b) (zip2 ◌&&◌ selection bits)) c.bitmap.ensures
    ∙ ap (count_by (λ b. b)) (zip2-map_right ◌&&◌ (λ v. nat_le v c.args.d) selection c.args.component.now.digits)

-- the greatest digit: every row
pub returns-else-d-top : goal.returns-else-d-top
returns-else-d-top c =
    c.count.ensures
    ∙ sym (where_all c.args.d c.args.selection.now.bits c.args.component.now.digits (sym c.requires.same) (λ k within. let most = c.top.ensures.most k in omega arith))
