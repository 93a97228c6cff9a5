use Rattle.std.proofs.Common.{ap, sym, ◌∙◌}
use Rattle.std.specs.Prelude.{count_by, ◌&&◌, ◌==◌}
use Rattle.std.specs.Simd.Lanes.{zip2}
use Rattle.bsi_bits.specs.BitList.{without}
use Rattle.bsi_bits.proofs.Pairs.{zip2-map_right}
use Rattle.bsi_components.specs.Component.{count_where}
use Rattle.bsi_components.proofs.EqualityReads.{and_zero}
use Rattle.bsi_components.proofs.equality.counts.EqualityComponent.count_eq.Goals as goal

-- digit 0 under base 2: the rows that the one bitmap does not have
pub returns-else-is_stored : goal.returns-else-is_stored
returns-else-is_stored c =
    let selection = c.args.selection.now.bits in
    let none = c.is_stored.ensures.none c.if-is_stored.false in
    c.count_and_not.ensures ∙ ap (λ bits. count_by (λ b. b) (zip2 without selection bits)) c.bitmap-else-is_stored.ensures
    ∙ ap (count_by (λ b. b)) (and_zero selection c.args.self.now.digits (c.is_stored.ensures.few c.if-is_stored.false))
    ∙ ap (λ d. count_where (λ v. v == d) selection c.args.self.now.digits) (sym none.1)

pub returns-then-is_stored : goal.returns-then-is_stored
returns-then-is_stored c =
    let selection = c.args.selection.now.bits in
    c.count_and.ensures ∙ ap (λ bits. count_by (λ b. b) (zip2 ◌&&◌ selection bits)) c.bitmap.ensures
    ∙ ap (count_by (λ b. b)) (zip2-map_right ◌&&◌ (λ v. v == c.args.d) selection c.args.self.now.digits)
