use Rattle.std.proofs.Common.{◌<◌, length, get_or, map, ◌∙◌, ap, arith}
use Rattle.std.specs.Prelude.{◌==◌}
use Rattle.std.specs.Int.{bit_at}
use Rattle.bsi_digits.specs.Comparisons.{number_or_zero}
use Rattle.bsi_slices.proofs.SliceEntries.{slice_of, slice_read}
use Rattle.bsi_slices.proofs.slices.Slices.slice.Goals as goal

pub returns : goal.returns
returns c =
    let within : c.args.i < length c.self.inside.slices.vectors = omega (arith, ap (λ e. e.width) c.self.view_is) in
    slice_read c.self.inside.slices.vectors c.args.i c.index-as_slice-i.result within (c.index-as_slice-i.is ∙ ap (λ s. get_or s c.args.i c.index-as_slice-i.result) c.as_slice.ensures.vectors)
    ∙ slice_of c.self.inside.not_null.bits c.self.inside.slices.vectors c.self.invariant c.args.i within
    ∙ ap (λ e. map (λ v. bit_at (number_or_zero v) c.args.i == 1) e.entries) c.self.view_is
