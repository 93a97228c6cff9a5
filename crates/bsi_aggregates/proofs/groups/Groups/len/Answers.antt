use Rattle.std.proofs.Common.{length, ap, sym, ◌∙◌}
use Rattle.bsi_aggregates.proofs.FlatGroups.{grouped_length}
use Rattle.bsi_aggregates.proofs.groups.Groups.len.Goals as goal

pub returns : goal.returns
returns c =
    let i = c.self.inside in
    c.len.ensures ∙ i.answers.ok.0 ∙ sym (grouped_length i.columns i.entries.items i.answers.items) ∙ ap (λ g. length g.groups) c.self.view_is
