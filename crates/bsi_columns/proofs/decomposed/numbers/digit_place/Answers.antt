use Rattle.std.proofs.Common.{◌≡◌, ◌+◌, ◌*◌, ◌<◌, ◌^◌, length, get_or, ap, sym, ◌∙◌, arith}
use Rattle.std.specs.Prelude.{replicate}
use Rattle.bsi_bits.specs.Packed.{bit_of}
use Rattle.bsi_slices.proofs.StateWords.{no_row}
use Rattle.bsi_columns.proofs.PlaceSums.{place_past}
use Rattle.bsi_columns.proofs.decomposed.numbers.digit_place.Goals as goal

-- a digit below the base has no further place
pub returns-else-k-place_count : goal.returns-else-k-place_count
returns-else-k-place_count g c = λ p below row.
    let n = length c.args.place.now in
    let digit = get_or (g.E.Encoding.digits c.args.component.now) (64 * c.args.at + p) 0 in
    let filled : c.fill.new.self ≡ replicate n 0 = c.fill.ensures.after (λ y same. same) in
    let small : digit < 2 ^ c.place_count.result = omega (arith, c.base.ensures.below (64 * c.args.at + p), c.base.ensures.base, c.place_count.ensures.enough) in
    ap (λ ws. bit_of ws p) filled ∙ no_row n p ∙ sym (place_past digit c.place_count.result c.args.k c.if-k-place_count.false small)
