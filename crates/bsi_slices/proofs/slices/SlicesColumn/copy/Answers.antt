use Rattle.std.proofs.Common.{ap, ◌∙◌}
use Rattle.bsi_slices.proofs.SliceEntries.{entries_same, sliced_same}
use Rattle.bsi_slices.proofs.slices.SlicesColumn.copy.Goals as goal

pub invariant_of-result : goal.invariant_of-result
invariant_of-result c =
    let same = c.in_ok-slices.ensures.same in
    sliced_same c.self.inside.not_null.bits c.in_ok-copy.field-0.bits c.self.inside.slices.vectors c.in_ok-slices.slices.vectors
    c.in_ok-copy.ensures same.count (λ k within. same.bits k) c.self.invariant

pub returns-clause-entries : goal.returns-clause-entries
returns-clause-entries c =
    let same = c.in_ok-slices.ensures.same in
    entries_same c.self.inside.not_null.bits c.in_ok-copy.field-0.bits c.self.inside.slices.vectors c.in_ok-slices.slices.vectors
    c.in_ok-copy.ensures same.count (λ k within. same.bits k) ∙ ap (λ e. e.entries) c.self.view_is

pub returns-clause-form : goal.returns-clause-form
returns-clause-form c = c.in_ok-slices.ensures.same.count ∙ ap (λ e. e.width) c.self.view_is
