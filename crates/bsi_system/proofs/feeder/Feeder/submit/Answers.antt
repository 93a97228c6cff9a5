use Rattle.std.proofs.Common.{◌≡◌, ◌+◌, ◌∷◌, [], ◌++◌, All, ap, ◌∙◌, subst, sym, arith, length}
use Rattle.std.specs.Prelude.{IsTrue}
use Rattle.bsi_schema.specs.Columns.{fits}
use Rattle.rtrb.specs.Ring.{known_free, sent}
use Rattle.bsi_system.specs.declared.message.Message.TheVariants.{Row}
use Rattle.bsi_system.specs.Rings.{all_rows, ring_of, IsMessageFor}
use Rattle.bsi_system.proofs.Messages.{one_sent, sends}
use Rattle.bsi_system.proofs.feeder.Feeder.submit.Goals as goal

-- the row fits, and is counted
pub invariant_of-self-2 : goal.invariant_of-self-2
invariant_of-self-2 c =
    let l = c.self.inside in
    let p = Row c.args.row in
    let fit : IsTrue (fits l.schema.value.columns c.args.row) = ap (λ s. fits s.columns c.args.row) (sym c.deref.ensures) ∙ (sym c.fits.ensures ∙ c.if-not-fits.false) in
    let now : sent c.push_reserved.new.self ≡ sent l.ring ++ p ∷ [] = c.push_reserved.ensures.sent.0 ∙ ap (λ ps. ps ++ p ∷ []) c.spend_credits.ensures.looked.1 in
    let new = c.spend_credits.new.credits in
    let counted = one_sent l.schema.value (sent l.ring) p (new.acked + new.in_flight) c.self.invariant.0 fit (c.spend_credits.ensures.filled c.if-not-spend_credits.false) in (
      subst (All (IsMessageFor l.schema.value)) (sym now) counted.0,
      counted.1 ∙ ap (λ ps. length (all_rows ps)) (sym now),
      omega (arith, c.push_reserved.ensures.ring.1, c.spend_credits.ensures.looked.0.1, c.spend_credits.ensures.within c.if-not-spend_credits.false),
      omega (arith, c.push_reserved.ensures.ring.1, c.spend_credits.ensures.looked.0.1, c.self.invariant.3),
    )

pub returns-clause-sent : goal.returns-clause-sent
returns-clause-sent c =
    let l = c.self.inside in
    let p = Row c.args.row in
    let new = c.push_reserved.new.self in
    let one = c.spend_credits.ensures.looked.0 in
    let two = c.push_reserved.ensures.ring in
    let now : sent new ≡ sent l.ring ++ p ∷ [] = c.push_reserved.ensures.sent.0 ∙ ap (λ ps. ps ++ p ∷ []) c.spend_credits.ensures.looked.1 in
    let ring : ring_of new.end ≡ ring_of l.ring.end = cc (one.0.0, one.0.1, one.0.2, one.0.3, two.0.0, two.0.1, two.0.2, two.0.3) in
    sends l.number (ring_of new.end) (ring_of l.ring.end) l.schema.value new.capacity l.ring.capacity (sent l.ring) (sent new) (record { acked = l.credits.acked; free = known_free l.ring })
    (record { acked = c.spend_credits.new.credits.acked; free = known_free new }) p c.args.self.now ring (two.1 ∙ one.1) now c.self.view_is
