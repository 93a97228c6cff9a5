use Rattle.std.proofs.Common.{◌≡◌, ◌<◌, ◌≤◌, set, length, ◌++◌, ap, sym, ◌∙◌, subst, [], ◌∷◌, Result, Ok, rules, arith}
use Rattle.std.specs.Prelude.{All, IsTrue}
use Rattle.std.proofs.lemmas.List.{get_or_default, set-get_or}
use Rattle.bsi_schema.specs.Columns.{fits}
use Rattle.bsi_rows.specs.Rows.{Entries}
use Rattle.bsi_rows.specs.declared.event.SubmitRefused.{SubmitRefused}
use Rattle.bsi_rows.specs.declared.event.SubmitRefused.TheVariants as submit
use Rattle.bsi_rows.specs.declared.event.Event.TheVariants.{Submit}
use Rattle.bsi_rows.specs.declared.event.Reply.TheVariants.{Submitted}
use Rattle.bsi_rows.specs.Runs.{shown_after}
use Rattle.bsi_rows.specs.Shown.{Shown, no_feeder}
use Rattle.bsi_table.specs.Index.{table_of}
use Rattle.bsi_load.proofs.Changes.{submit_refused, submit_accepted, with_feeders}
use Rattle.bsi_rows.proofs.Composing.{feeder}
use Rattle.bsi_load.proofs.Machines.{by_push, machine_set, old_fitting, old_small, pushed_all, pushed_capacity, pushed_within}
use Rattle.bsi_load.proofs.machine.Core.submit.Goals as goal

pub returns-then-f-feeders-clause-after : goal.returns-then-f-feeders-clause-after
returns-then-f-feeders-clause-after c = submit_refused c.args.self.now c.args.f c.args.row (submit.UnknownFeeder c.args.row)

pub returns-then-index-clause-after : goal.returns-then-index-clause-after
returns-then-index-clause-after c = submit_refused c.args.self.now c.args.f c.args.row (submit.Closed c.args.row)

pub returns-then-not-fits-clause-after : goal.returns-then-not-fits-clause-after
returns-then-not-fits-clause-after c = submit_refused c.args.self.now c.args.f c.args.row (submit.Misfit c.args.row)

pub invariant_of-self : goal.invariant_of-self
invariant_of-self c =
    let items = c.self.inside.feeders.items in
    let many = ap (λ v. length v.feeders) c.self.view_is in
    let there : c.args.f < length items = omega (arith, c.if-f-feeders.false, c.feeders.ensures.feeders, many) in
    let old_is = c.behind-self-2.view_is ∙ c.index_mut.ensures.value in
    let old = c.behind-self-2.inside.rows in
    let new = c.try_push_back.new.self in
    let Fits : Entries → Type 0 = λ row. IsTrue (fits c.self.inside.index.schema.columns row) in
    let row_fits : Fits c.args.row = search (rules, c.fits.ensures, c.schema.ensures, c.if-not-fits.false) in
    let fitting = subst (λ w. All Fits w.rows) (sym old_is) (old_fitting (table_of c.self.inside.index) items c.self.invariant c.args.f there c.index_mut.result.now) in
    let small = subst (λ w. w.capacity ≤ 65536) (sym old_is) (old_small (table_of c.self.inside.index) items c.self.invariant c.args.f there c.index_mut.result.now) in
    let told = c.try_push_back.ensures in
    let capacity = pushed_capacity Fits old new c.args.row c.try_push_back.result told.ok told.err in
    machine_set (table_of c.self.inside.index) items c.self.invariant c.args.f there (feeder new.items c.behind-self-2.inside.closed new.capacity)
    (pushed_within Fits old new c.args.row c.try_push_back.result told.variant told.ok told.err c.behind-self-2.invariant)
    (omega (arith, small, capacity))
    (pushed_all Fits old new c.args.row c.try_push_back.result told.ok told.err fitting row_fits)

pub returns-clause-after : goal.returns-clause-after
returns-clause-after c =
    let items = c.self.inside.feeders.items in
    let s : Shown = with_feeders (table_of c.self.inside.index) items in
    let many = ap (λ v. length v.feeders) c.self.view_is in
    let there : c.args.f < length items = omega (arith, c.if-f-feeders.false, c.feeders.ensures.feeders, many) in
    let old_is = c.behind-self-2.view_is ∙ c.index_mut.ensures.value ∙ get_or_default items c.args.f c.index_mut.result.now no_feeder there in
    let closed = c.behind-self-2.inside.closed in
    let After : Result (Unit {0}) SubmitRefused → Type 0 = λ r.
    with_feeders (table_of c.self.inside.index) (set items c.args.f (feeder c.try_push_back.new.self.items closed c.try_push_back.new.self.capacity))
    ≡ shown_after c.args.self.now ((Submit c.args.f c.args.row, Submitted r) ∷ []) in
    by_push After c.try_push_back.result c.map_err.result c.map_err.ensures.cases c.try_push_back.ensures.ok c.try_push_back.ensures.err
    (λ ok.
    ap (λ q. with_feeders (table_of c.self.inside.index) (set items c.args.f (feeder q.items closed q.capacity))) ok
    ∙ ap (λ v. with_feeders (table_of c.self.inside.index) (set items c.args.f (feeder (v.rows ++ c.args.row ∷ []) v.closed v.capacity))) old_is
    ∙ submit_accepted s c.args.f there c.args.row
    ∙ ap (λ v. shown_after v ((Submit c.args.f c.args.row, Submitted (Ok tt)) ∷ [])) c.self.view_is)
    (λ row err.
    ap (λ q. with_feeders (table_of c.self.inside.index) (set items c.args.f (feeder q.items closed q.capacity))) err.1
    ∙ ap (λ v. with_feeders (table_of c.self.inside.index) (set items c.args.f v)) old_is
    ∙ ap (with_feeders (table_of c.self.inside.index)) (set-get_or items c.args.f no_feeder)
    ∙ c.self.view_is
    ∙ submit_refused c.args.self.now c.args.f c.args.row (submit.Full row))
