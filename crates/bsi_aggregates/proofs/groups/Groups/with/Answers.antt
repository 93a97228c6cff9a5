use Rattle.std.proofs.Common.{◌≡◌, ◌+◌, ◌*◌, [], ◌∷◌, ◌++◌, length, ap, ap₂, sym, ◌∙◌, arith, append_assoc, length-append}
use Rattle.bsi_aggregates.specs.Groups.{grouped, Grouped}
use Rattle.bsi_aggregates.proofs.FlatGroups.{grouped_push, times_more}
use Rattle.bsi_aggregates.proofs.groups.Groups.with.Goals as goal

pub invariant_of-result : goal.invariant_of-result
invariant_of-result c =
    let i = c.self.inside in
    let entries = i.entries.items in
    let answers = i.answers.items in
    let more = c.args.first ∷ c.args.others.now in
    let all = c.in_ok-extend_from_slice.ensures.items ∙ ap (λ es. es ++ c.args.others.now) c.in_ok-push.ensures.items ∙ append_assoc entries (c.args.first ∷ []) c.args.others.now in
    omega (
      arith,
      ap length all,
      length-append entries more,
      ap length c.in_ok-push-2.ensures.items,
      length-append answers (c.args.answer ∷ []),
      c.self.invariant,
      ap (λ m. i.columns * m) (ap length c.in_ok-push-2.ensures.items ∙ length-append answers (c.args.answer ∷ [])),
      times_more i.columns (length answers),
      c.requires,
      ap (λ g. g.columns) c.self.view_is,
    )

pub returns-clause-groups : goal.returns-clause-groups
returns-clause-groups c =
    let i = c.self.inside in
    let entries = i.entries.items in
    let answers = i.answers.items in
    let more = c.args.first ∷ c.args.others.now in
    let all = c.in_ok-extend_from_slice.ensures.items ∙ ap (λ es. es ++ c.args.others.now) c.in_ok-push.ensures.items ∙ append_assoc entries (c.args.first ∷ []) c.args.others.now in
    let group : Grouped = record { entries = more; answer = c.args.answer } in
    ap₂ (grouped i.columns) all c.in_ok-push-2.ensures.items
    ∙ grouped_push i.columns entries more answers c.args.answer c.self.invariant (omega (arith, c.requires, ap (λ g. g.columns) c.self.view_is))
    ∙ ap (λ gs. gs ++ group ∷ []) (ap (λ g. g.groups) c.self.view_is)
