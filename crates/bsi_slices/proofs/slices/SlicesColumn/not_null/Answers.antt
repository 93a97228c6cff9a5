use Rattle.std.proofs.Common.{map, is_some, ◌∙◌, ap}
use Rattle.bsi_slices.proofs.SliceEntries.{not_null_of}
use Rattle.bsi_slices.proofs.slices.SlicesColumn.not_null.Goals as goal

pub returns : goal.returns
returns c = ap (λ b. b.bits) c.bits.ensures ∙ not_null_of c.self.inside.not_null.bits c.self.inside.slices.vectors ∙ ap (λ e. map is_some e.entries) c.self.view_is
