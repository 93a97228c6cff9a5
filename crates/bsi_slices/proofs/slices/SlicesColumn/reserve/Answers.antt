use Rattle.std.proofs.Common.{◌≡◌, length, sym, ◌∙◌, ap, arith}
use Rattle.bsi_slices.proofs.SliceEntries.{length-entries_in}
use Rattle.bsi_slices.proofs.slices.SlicesColumn.reserve.Goals as goal

-- there are as many marks as rows
pub reserve_rows-requires-clause-below : goal.reserve_rows-requires-clause-below
reserve_rows-requires-clause-below c =
    let rows : length c.args.self.now.entries ≡ length c.self.inside.not_null.bits =
    ap (λ e. length e.entries) (sym c.self.view_is) ∙ length-entries_in c.self.inside.not_null.bits c.self.inside.slices.vectors in
    omega (arith, rows, c.requires)
