use Rattle.std.proofs.Common.{◌≡◌, ◌+◌, ◌-◌, ◌*◌, ◌<◌, ◌≤◌, List, Option, ℤ, Some, length, take, drop, ap, ap₂, sym, ◌∙◌, arith}
use Rattle.std.specs.Prelude.{slice_get}
use Rattle.bsi_aggregates.specs.Groups.{Grouped}
use Rattle.bsi_aggregates.proofs.FlatGroups.{grouped_at, grouped_length, times_within}
use Rattle.bsi_aggregates.proofs.groups.Groups.get.Goals as goal

pub overflow_mul-start : goal.overflow_mul-start
overflow_mul-start c =
    let i = c.self.inside in
    let below : c.args.k < length i.answers.items = omega (arith, c.requires, ap (λ g. length g.groups) c.self.view_is, grouped_length i.columns i.entries.items i.answers.items) in
    omega (arith, times_within i.columns c.args.k (length i.answers.items) below, c.self.invariant, i.entries.ok.0, i.entries.ok.1, i.entries.small)

pub overflow_add-result : goal.overflow_add-result
overflow_add-result c =
    let i = c.self.inside in
    let below : c.args.k < length i.answers.items = omega (arith, c.requires, ap (λ g. length g.groups) c.self.view_is, grouped_length i.columns i.entries.items i.answers.items) in
    omega (arith, times_within i.columns c.args.k (length i.answers.items) below, c.self.invariant, i.entries.ok.0, i.entries.ok.1, i.entries.small)

pub offset_bounds-deref-start : goal.offset_bounds-deref-start
offset_bounds-deref-start c =
    let i = c.self.inside in
    let below : c.args.k < length i.answers.items = omega (arith, c.requires, ap (λ g. length g.groups) c.self.view_is, grouped_length i.columns i.entries.items i.answers.items) in
    omega (arith, times_within i.columns c.args.k (length i.answers.items) below, c.self.invariant, ap length c.deref.ensures.value, c.deref.type_inv.1)

pub slice_bounds-result-end : goal.slice_bounds-result-end
slice_bounds-result-end c =
    let i = c.self.inside in
    let below : c.args.k < length i.answers.items = omega (arith, c.requires, ap (λ g. length g.groups) c.self.view_is, grouped_length i.columns i.entries.items i.answers.items) in
    omega (arith, times_within i.columns c.args.k (length i.answers.items) below, c.self.invariant, ap length c.deref.ensures.value)

pub index-requires : goal.index-requires
index-requires c =
    let i = c.self.inside in
    omega (arith, c.requires, ap (λ g. length g.groups) c.self.view_is, grouped_length i.columns i.entries.items i.answers.items, i.answers.ok.0)

pub returns-clause-group : goal.returns-clause-group
returns-clause-group c =
    let i = c.self.inside in
    let k = c.args.k in
    let n = i.columns in
    let below : k < length i.answers.items = omega (arith, c.requires, ap (λ g. length g.groups) c.self.view_is, grouped_length n i.entries.items i.answers.items) in
    let long : n ≡ n * k + n - n * k = omega arith in
    sym (ap (λ g. slice_get g.groups k) c.self.view_is)
    ∙ grouped_at n i.entries.items i.answers.items k c.index.result.now below c.index.ensures
    ∙ ap₂ (λ m (es : List (Option ℤ)). let group : Grouped = record { entries = take m (drop (n * k) es); answer = c.index.result.now } in Some group) long (sym c.deref.ensures.value)
