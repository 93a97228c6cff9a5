use Rattle.std.proofs.Common.{◌<◌, true, set, length, ap, ◌∙◌, [], ◌∷◌, Ok, arith}
use Rattle.std.proofs.lemmas.List.{get_or_default}
use Rattle.bsi_rows.specs.declared.event.CloseRefused.TheVariants as close
use Rattle.bsi_rows.specs.declared.event.Event.TheVariants.{Close}
use Rattle.bsi_rows.specs.declared.event.Reply.TheVariants.{Closed}
use Rattle.bsi_rows.specs.Runs.{shown_after}
use Rattle.bsi_rows.specs.Shown.{Shown, no_feeder}
use Rattle.bsi_table.specs.Index.{table_of}
use Rattle.bsi_load.proofs.Changes.{close_refused, close_done, with_feeders}
use Rattle.bsi_rows.proofs.Composing.{feeder}
use Rattle.bsi_load.proofs.machine.Core.close.Goals as goal

pub returns-then-f-feeders-clause-after : goal.returns-then-f-feeders-clause-after
returns-then-f-feeders-clause-after c = close_refused c.args.self.now c.args.f close.UnknownFeeder

pub returns-then-index-clause-after : goal.returns-then-index-clause-after
returns-then-index-clause-after c = close_refused c.args.self.now c.args.f close.AlreadyClosed

pub returns-clause-after : goal.returns-clause-after
returns-clause-after c =
    let items = c.self.inside.feeders.items in
    let s : Shown = with_feeders (table_of c.self.inside.index) items in
    let many = ap (λ v. length v.feeders) c.self.view_is in
    let there : c.args.f < length items = omega (arith, c.if-f-feeders.false, c.feeders.ensures.feeders, many) in
    let old_is = c.behind-self-2.view_is ∙ c.index_mut.ensures.value ∙ get_or_default items c.args.f c.index_mut.result.now no_feeder there in
    ap (λ w. with_feeders (table_of c.self.inside.index) (set items c.args.f (feeder w.rows true w.capacity))) old_is
    ∙ close_done s c.args.f there ∙ ap (λ v. shown_after v ((Close c.args.f, Closed (Ok tt)) ∷ [])) c.self.view_is
