use Rattle.std.proofs.Common.{ap, sym, ◌∙◌}
use Rattle.std.specs.Prelude.{◌==◌, ◌&&◌}
use Rattle.std.specs.Simd.Lanes.{zip2}
use Rattle.bsi_bits.specs.BitList.{without}
use Rattle.bsi_bits.proofs.Pairs.{zip2-map_right}
use Rattle.bsi_components.proofs.EqualityReads.{and_zero}
use Rattle.bsi_components.proofs.equality.counts.EqualityComponent.and_digit.Goals as goal

-- digit 0 under base 2: the rows that the one bitmap does not have
pub returns-else-is_stored : goal.returns-else-is_stored
returns-else-is_stored c =
    let rows = c.args.rows.now.bits in
    let none = c.is_stored.ensures.none c.if-is_stored.false in
    c.and_not_with.ensures.bits ∙ ap (zip2 without rows) c.bitmap-else-is_stored.ensures
    ∙ and_zero rows c.args.self.now.digits (c.is_stored.ensures.few c.if-is_stored.false)
    ∙ ap (λ d. zip2 (λ f v. f && (v == d)) rows c.args.self.now.digits) (sym none.1)

pub returns-then-is_stored : goal.returns-then-is_stored
returns-then-is_stored c =
    let rows = c.args.rows.now.bits in
    c.and_with.ensures.bits ∙ ap (zip2 ◌&&◌ rows) c.bitmap.ensures
    ∙ zip2-map_right ◌&&◌ (λ v. v == c.args.d) rows c.args.self.now.digits
