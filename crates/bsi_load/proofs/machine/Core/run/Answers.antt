use Rattle.std.proofs.Common.{◌≡◌, ◌+◌, length, Some, ap, sym, subst, ◌∙◌, [], ◌∷◌, rules, arith}
use Rattle.std.specs.Prelude.{slice_get}
use Rattle.std.proofs.lemmas.Iterator.Adapters.{YieldsList-from_vec}
use Rattle.std.proofs.lemmas.Iterator.Consumers.{YieldsList-turn}
use Rattle.std.proofs.lemmas.List.{length-append}
use Rattle.std.proofs.lemmas.Option.{slice_get-get_or}
use Rattle.bsi_rows.specs.Runs.{past_of, shown_after, AreLawful}
use Rattle.bsi_rows.specs.Shown.{IsLawful}
use Rattle.bsi_rows.proofs.Composing.{shown_start, shown_step}
use Rattle.bsi_rows.proofs.Events.{conserved_at, done_after-push, more_lawful, none_lawful, past_none, stays_closed}
use Rattle.bsi_load.proofs.machine.Core.run.Goals as goal

pub events-init : goal.events-init
events-init c =
    let s = c.args.self.now in
    let none = ap (past_of c.args.events.items) c.in-Ok.ensures.items ∙ past_none c.args.events.items in (
      search (rules, c.in-Ok.ensures.capacity),
      ap length c.in-Ok.ensures.items,
      subst (AreLawful s) (sym none) (none_lawful s),
      sym (ap (shown_after s) none ∙ shown_start s),
    )

pub push_reserved-requires : goal.push_reserved-requires
push_reserved-requires c =
    let turn = YieldsList-turn (YieldsList-from_vec {s = c.into_iter-event-iterator.result} c.args.events.items (search rules) (search rules))
    c.events.yielded c.events.event-iterator c.events.yielded_by c.next.result c.next.new.self c.in-Some.event c.in-Some.is c.next.ensures.steps in
    let kept = c.events.invariant in
    omega (arith, kept.0, kept.1, turn.0, c.events.replies.ok)

pub events-preserved : goal.events-preserved
events-preserved c =
    let s = c.args.self.now in
    let events = c.args.events.items in
    let replies = c.events.replies.items in
    let e = c.in-Some.event in
    let r = c.step-reply.result in
    let past = past_of events replies in
    let turn = YieldsList-turn (YieldsList-from_vec {s = c.into_iter-event-iterator.result} events (search rules) (search rules))
    c.events.yielded c.events.event-iterator c.events.yielded_by c.next.result c.next.new.self e c.in-Some.is c.next.ensures.steps in
    let kept = c.events.invariant in
    let next : slice_get events (length replies) ≡ Some e = ap (slice_get events) kept.1 ∙ slice_get-get_or events (length c.events.yielded) e turn.0 ∙ ap Some (sym turn.1) in
    let pushed : past_of events c.push_reserved.new.self.items ≡ (e, r) ∷ past = ap (past_of events) c.push_reserved.ensures.items ∙ done_after-push [] events replies e r next in
    let lawful : IsLawful (shown_after s past) e r = subst (λ shown. IsLawful shown e r) kept.3 c.step-reply.ensures.lawful in (
      search (rules, kept.0, c.push_reserved.ensures.capacity, c.push_reserved.ensures.in_place),
      ap length c.push_reserved.ensures.items ∙ length-append replies (r ∷ []) ∙ ap (λ n. n + 1) kept.1 ∙ sym (length-append c.events.yielded (e ∷ [])),
      subst (AreLawful s) (sym pushed) (more_lawful s past e r kept.2 lawful),
      c.step-reply.ensures.after ∙ ap (λ shown. shown_after shown ((e, r) ∷ [])) kept.3 ∙ shown_step s past kept.2 e r lawful ∙ ap (shown_after s) (sym pushed),
    )

pub returns-clause-nothing_lost : goal.returns-clause-nothing_lost
returns-clause-nothing_lost c = conserved_at c.args.self.now c.args.events.items c.events.replies.items c.events.invariant.2

pub returns-clause-stays_closed : goal.returns-clause-stays_closed
returns-clause-stays_closed c = stays_closed c.args.self.now c.args.events.items c.events.replies.items c.events.invariant.2
