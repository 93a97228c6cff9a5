use Rattle.std.proofs.Common.{◌<◌, ◌≤◌, cond, set, length, drop, ap, sym, ◌∙◌, subst, [], ◌∷◌, Ok, Err, arith}
use Rattle.std.specs.Prelude.{All, IsTrue}
use Rattle.std.specs.Option.{option_copied}
use Rattle.std.proofs.lemmas.List.{get_or_default, length-drop}
use Rattle.std.proofs.lemmas.List.Elements.{All-drop, All-head}
use Rattle.bsi_schema.specs.Columns.{fits}
use Rattle.bsi_rows.specs.Rows.{Entries}
use Rattle.bsi_rows.specs.Table.{with_row}
use Rattle.bsi_rows.specs.declared.event.LoadRefused.TheVariants as load
use Rattle.bsi_rows.specs.declared.event.Event.TheVariants.{Load}
use Rattle.bsi_rows.specs.declared.event.Reply.TheVariants.{Loaded}
use Rattle.bsi_rows.specs.Runs.{shown_after}
use Rattle.bsi_rows.specs.Shown.{Shown, feeder_at, no_feeder, IsLoadReply, IsMachine}
use Rattle.bsi_table.specs.Index.{table_of}
use Rattle.bsi_load.proofs.Changes.{load_refused, load_done, with_feeders}
use Rattle.bsi_rows.proofs.Composing.{feeder}
use Rattle.bsi_load.proofs.Machines.{first_row, load_failed, machine_row, machine_set, no_first, nothing_waits, old_fitting, old_small}
use Rattle.bsi_load.proofs.machine.Core.load.Goals as goal

pub returns-then-f-feeders-clause-after : goal.returns-then-f-feeders-clause-after
returns-then-f-feeders-clause-after c = load_refused c.args.self.now c.args.f load.UnknownFeeder

pub returns-in_default-clause-after : goal.returns-in_default-clause-after
returns-in_default-clause-after c = load_refused c.args.self.now c.args.f c.refusal.result

pub returns-in_default-clause-reply : goal.returns-in_default-clause-reply
returns-in_default-clause-reply c =
    let items = c.self.inside.feeders.items in
    let many = ap (λ v. length v.feeders) c.self.view_is in
    let there : c.args.f < length items = omega (arith, c.if-f-feeders.false, c.feeders.ensures.feeders, many) in
    let old_is = c.behind-self.view_is ∙ c.index.ensures ∙ get_or_default items c.args.f c.index.result.now no_feeder there in
    let end_is = c.index-in_default.ensures ∙ get_or_default items c.args.f c.index-in_default.result.now no_feeder there in
    let empty = no_first c.behind-self.inside.rows.items (sym c.front.ensures ∙ ap option_copied c.in_default.is) in
    subst (λ v. IsLoadReply v c.args.f (Err c.refusal.result)) c.self.view_is
    (nothing_waits (with_feeders (table_of c.self.inside.index) items) c.args.f c.refusal.result there (ap (λ w. w.rows) (sym old_is) ∙ empty)
    (c.refusal.ensures ∙ ap (λ w. cond w.closed load.Ended load.Empty) end_is))

pub append-requires-clause-fits : goal.append-requires-clause-fits
append-requires-clause-fits c =
    let items = c.self.inside.feeders.items in
    let many = ap (λ v. length v.feeders) c.self.view_is in
    let there : c.args.f < length items = omega (arith, c.if-f-feeders.false, c.feeders.ensures.feeders, many) in
    let Fits : Entries → Type 0 = λ row. IsTrue (fits c.self.inside.index.schema.columns row) in
    let old_is = c.behind-self.view_is ∙ c.index.ensures in
    let fitting = subst (λ w. All Fits w.rows) (sym old_is) (old_fitting (table_of c.self.inside.index) items c.self.invariant c.args.f there c.index.result.now) in
    let rows_are = first_row c.behind-self.inside.rows.items c.in-Some.row.now (sym c.front.ensures ∙ ap option_copied c.in-Some.is) in
    All-head Fits c.in-Some.row.now (drop 1 c.behind-self.inside.rows.items) (subst (All Fits) rows_are fitting)

pub returns-in_err-position-clause-after : goal.returns-in_err-position-clause-after
returns-in_err-position-clause-after c =
    ap (λ index. with_feeders (table_of index) c.self.inside.feeders.items) c.in_err-position.ensures.unchanged
    ∙ c.self.view_is ∙ load_failed c.args.self.now c.args.f c.from_residual.result c.from_residual.ensures.0

pub invariant_of-self-2 : goal.invariant_of-self-2
invariant_of-self-2 c =
    let index = table_of c.self.inside.index in
    let items = c.self.inside.feeders.items in
    let many = ap (λ v. length v.feeders) c.self.view_is in
    let there : c.args.f < length items = omega (arith, c.if-f-feeders.false, c.feeders.ensures.feeders, many) in
    let Fits : Entries → Type 0 = λ row. IsTrue (fits index.schema.columns row) in
    let old_is = c.behind-self-2.view_is ∙ c.index_mut.ensures.value in
    let old = c.behind-self-2.inside.rows in
    let fitting = subst (λ w. All Fits w.rows) (sym old_is) (old_fitting index items c.self.invariant c.args.f there c.index_mut.result.now) in
    let small = subst (λ w. w.capacity ≤ 65536) (sym old_is) (old_small index items c.self.invariant c.args.f there c.index_mut.result.now) in
    let w = feeder (drop 1 old.items) c.behind-self-2.inside.closed old.capacity in
    let is = machine_set index items c.self.invariant c.args.f there w (omega (arith, length-drop 1 old.items, c.behind-self-2.invariant)) small (All-drop Fits 1 old.items fitting) in
    subst (λ q. IsMachine (table_of c.append.new.self) (set items c.args.f (feeder q.items c.behind-self-2.inside.closed q.capacity))) (sym c.pop_front.ensures.items)
    (subst (λ table. IsMachine table (set items c.args.f w)) (sym c.in_ok-position.ensures.appended) (machine_row index (set items c.args.f w) c.args.f c.in-Some.row.now is))

pub returns-clause-after : goal.returns-clause-after
returns-clause-after c =
    let index = table_of c.self.inside.index in
    let items = c.self.inside.feeders.items in
    let s : Shown = with_feeders index items in
    let many = ap (λ v. length v.feeders) c.self.view_is in
    let there : c.args.f < length items = omega (arith, c.if-f-feeders.false, c.feeders.ensures.feeders, many) in
    let first_is = c.behind-self.view_is ∙ c.index.ensures ∙ get_or_default items c.args.f c.index.result.now no_feeder there in
    let old_is = c.behind-self-2.view_is ∙ c.index_mut.ensures.value ∙ get_or_default items c.args.f c.index_mut.result.now no_feeder there in
    let closed = c.behind-self-2.inside.closed in
    let row = c.in-Some.row.now in
    let after = with_row index c.args.f row in
    let rows_are = ap (λ w. w.rows) (sym first_is) ∙ first_row c.behind-self.inside.rows.items row (sym c.front.ensures ∙ ap option_copied c.in-Some.is) ∙ ap (λ w. row ∷ drop 1 w.rows) first_is in
    ap (λ table. with_feeders table (set items c.args.f (feeder c.pop_front.new.self.items closed c.pop_front.new.self.capacity))) c.in_ok-position.ensures.appended
    ∙ ap (λ q. with_feeders after (set items c.args.f (feeder q.items closed q.capacity))) c.pop_front.ensures.items
    ∙ ap (λ w. with_feeders after (set items c.args.f (feeder (drop 1 w.rows) w.closed w.capacity))) old_is
    ∙ load_done s c.args.f there c.in_ok-position.position row (drop 1 (feeder_at s c.args.f).rows) rows_are
    ∙ ap (λ v. shown_after v ((Load c.args.f, Loaded (Ok c.in_ok-position.position)) ∷ [])) c.self.view_is
