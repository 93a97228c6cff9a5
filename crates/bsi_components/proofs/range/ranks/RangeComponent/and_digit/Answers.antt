use Rattle.std.proofs.Common.{◌≡◌, ◌-◌, length, ap, ap₂, sym, ◌∙◌, arith}
use Rattle.std.specs.Prelude.{◌==◌, ◌&&◌, nat_le}
use Rattle.std.specs.Simd.Lanes.{zip2}
use Rattle.std.proofs.lemmas.Simd.{length-zip2}
use Rattle.std.proofs.lemmas.List.{length-map}
use Rattle.bsi_bits.specs.BitList.{without}
use Rattle.bsi_components.proofs.RangeReads.{and_least, and_between, and_greatest}
use Rattle.bsi_components.proofs.range.ranks.RangeComponent.and_digit.Goals as goal

-- as many bits are left
pub and_not_with-requires-then-d-gt0 : goal.and_not_with-requires-then-d-gt0
and_not_with-requires-then-d-gt0 c =
    let rows = c.args.rows.now.bits in
    let ds = c.args.self.now.digits in
    let upper = ap length c.bitmap-then-d-gt0.ensures ∙ length-map ds (λ v. nat_le v c.args.d) in
    let lower = ap length c.bitmap-then-d-gt0-2.ensures ∙ length-map ds (λ v. nat_le v (c.args.d - 1)) in
    ap length c.and_with.ensures.bits
    ∙ length-zip2 ◌&&◌ rows c.bitmap-then-d-gt0.result.now.bits (sym c.requires.same ∙ sym upper)
    ∙ sym c.requires.same ∙ sym lower

pub returns-else-d-gt0 : goal.returns-else-d-gt0
returns-else-d-gt0 c =
    let rows = c.args.rows.now.bits in
    let ds = c.args.self.now.digits in
    let zero : 0 ≡ c.args.d = omega arith in
    c.and_with-else-d-gt0.ensures.bits ∙ ap (zip2 ◌&&◌ rows) c.bitmap-else-d-gt0.ensures
    ∙ and_least c.top.result rows ds c.top.ensures.most
    ∙ ap (λ d. zip2 (λ f v. f && (v == d)) rows ds) zero

pub returns-then-d-gt0 : goal.returns-then-d-gt0
returns-then-d-gt0 c =
    let rows = c.args.rows.now.bits in
    c.and_not_with-then-d-gt0.ensures.bits
    ∙ ap₂ (zip2 without) (c.and_with.ensures.bits ∙ ap (zip2 ◌&&◌ rows) c.bitmap-then-d-gt0.ensures) c.bitmap-then-d-gt0-2.ensures
    ∙ and_between c.top.result rows c.args.self.now.digits c.top.ensures.most c.args.d (omega arith)

pub returns-then-d-top : goal.returns-then-d-top
returns-then-d-top c =
    let rows = c.args.rows.now.bits in
    c.and_not_with.ensures.bits ∙ ap (zip2 without rows) c.bitmap.ensures
    ∙ and_greatest c.args.d rows c.args.self.now.digits (λ k. let most = c.top.ensures.most k in omega arith) (omega arith)
