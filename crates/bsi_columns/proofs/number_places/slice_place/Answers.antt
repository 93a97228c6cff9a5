use Rattle.std.proofs.Common.{◌≡◌, ◌+◌, ◌*◌, ◌<◌, ◌^◌, None, length, subst, ap, sym, ◌∙◌}
use Rattle.std.specs.Prelude.{replicate}
use Rattle.bsi_bits.specs.Packed.{bit_of}
use Rattle.bsi_slices.proofs.StateWords.{no_row}
use Rattle.bsi_columns.specs.Extremes.{number_at}
use Rattle.bsi_columns.proofs.PlaceSums.{place_past}
use Rattle.bsi_columns.proofs.number_places.slice_place.Goals as goal

-- a number has no place where no slice is
pub returns-else-k-width : goal.returns-else-k-width
returns-else-k-width c = λ p below row.
    let n = length c.args.place.now in
    let column = c.args.column.now in
    let number = number_at column.entries (64 * c.args.at + p) in
    let filled : c.fill.new.self ≡ replicate n 0 = c.fill.ensures.after (λ y same. same) in
    let small : number < 2 ^ c.width-width.result = subst (λ w. number < 2 ^ w) (sym c.width-width.ensures.width) (c.width-width.ensures.below (64 * c.args.at + p) None row) in
    ap (λ ws. bit_of ws p) filled ∙ no_row n p ∙ sym (place_past number c.width-width.result c.args.k c.if-k-width.false small)
