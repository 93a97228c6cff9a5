use Rattle.std.proofs.Common.{◌≡◌, ◌+◌, ◌∷◌, [], ◌++◌, All, ap, ◌∙◌, subst, sym, arith, length}
use Rattle.std.proofs.lemmas.List.{length-map}
use Rattle.rtrb.specs.Ring.{known_free, sent}
use Rattle.bsi_rows.specs.RowBlocks.{entries_of, HaveSameLimits}
use Rattle.bsi_rows.specs.Rows.{SourcedRow}
use Rattle.bsi_rows.specs.Table.{AreFitting}
use Rattle.bsi_system.specs.declared.message.Message.TheVariants.{Batch}
use Rattle.bsi_system.specs.Rings.{all_rows, ring_of, rows_of, with_look, with_sent_rows, IsMessageFor, Look}
use Rattle.bsi_system.proofs.Messages.{entries_fit, one_sent, sends}
use Rattle.bsi_system.proofs.feeder.Feeder.submit_batch.Goals as goal

-- the rows of the batch fit, and are counted
pub invariant_of-self-2 : goal.invariant_of-self-2
invariant_of-self-2 c =
    let l = c.self.inside in
    let batch = c.args.batch in
    let p = Batch c.new.result in
    let alike : HaveSameLimits batch.schema l.schema.value = subst (λ s. HaveSameLimits batch.schema s) c.deref.ensures (c.has_limits_of.ensures.alike.0 c.if-not-has_limits_of.false) in
    let is : IsMessageFor l.schema.value p = subst (λ b. HaveSameLimits b.schema l.schema.value × Rattle.bsi_system.specs.Rings.AllFit l.schema.value (entries_of b.rows)) (sym c.new.ensures)
    (alike, entries_fit l.schema.value batch.rows (subst (λ s. AreFitting s.columns batch.rows) c.deref.ensures (c.has_limits_of.ensures.fits c.if-not-has_limits_of.false))) in
    let many : length (rows_of p) ≡ length batch.rows = ap (λ b. length (entries_of b.rows)) c.new.ensures ∙ length-map batch.rows (λ (row : SourcedRow). row.1) in
    let now : sent c.push_reserved.new.self ≡ sent l.ring ++ p ∷ [] = c.push_reserved.ensures.sent.0 ∙ ap (λ ps. ps ++ p ∷ []) c.spend_credits.ensures.looked.1 in
    let counts = c.spend_credits.new.credits in
    let counted = one_sent l.schema.value (sent l.ring) p (counts.acked + counts.in_flight) c.self.invariant.0 is
    (omega (arith, many, c.len-rows.ensures.len, c.spend_credits.ensures.filled c.if-not-spend_credits.false)) in (
      subst (All (IsMessageFor l.schema.value)) (sym now) counted.0,
      counted.1 ∙ ap (λ ps. length (all_rows ps)) (sym now),
      omega (arith, c.push_reserved.ensures.ring.1, c.spend_credits.ensures.looked.0.1, c.spend_credits.ensures.within c.if-not-spend_credits.false),
      omega (arith, c.push_reserved.ensures.ring.1, c.spend_credits.ensures.looked.0.1, c.self.invariant.3),
    )

pub returns-clause-sent : goal.returns-clause-sent
returns-clause-sent c =
    let l = c.self.inside in
    let p = Batch c.new.result in
    let new = c.push_reserved.new.self in
    let one = c.spend_credits.ensures.looked.0 in
    let two = c.push_reserved.ensures.ring in
    let look : Look = record { acked = c.spend_credits.new.credits.acked; free = known_free new } in
    let now : sent new ≡ sent l.ring ++ p ∷ [] = c.push_reserved.ensures.sent.0 ∙ ap (λ ps. ps ++ p ∷ []) c.spend_credits.ensures.looked.1 in
    let ring : ring_of new.end ≡ ring_of l.ring.end = cc (one.0.0, one.0.1, one.0.2, one.0.3, two.0.0, two.0.1, two.0.2, two.0.3) in
    sends l.number (ring_of new.end) (ring_of l.ring.end) l.schema.value new.capacity l.ring.capacity (sent l.ring) (sent new)
    (record { acked = l.credits.acked; free = known_free l.ring }) look p c.args.self.now ring (two.1 ∙ one.1) now c.self.view_is
    ∙ ap (λ b. with_look (with_sent_rows c.args.self.now (entries_of b.rows)) look) c.new.ensures
