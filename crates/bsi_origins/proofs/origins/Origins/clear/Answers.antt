use Rattle.std.proofs.Common.{length, ap, arith}
use Rattle.bsi_origins.proofs.Tallying.{room_emptied, tallied_none}
use Rattle.bsi_origins.proofs.origins.Origins.clear.Goals as goal

pub invariant_of-self : goal.invariant_of-self
invariant_of-self c =
    let i = c.self.inside in
    let was = c.self.invariant in (
      tallied_none i.feeders c.clear.new.self.items c.clear-2.new.self.items (was.0.some, was.0.few) c.clear.ensures.items c.clear-2.ensures.items,
      room_emptied i.feeders i.room _ _ _ _ c.len.result i.row_feeders.items c.clear.new.self.items was.1 c.clear.ensures.items
          (omega (arith, c.len.ensures.len, ap (λ o. length o.rows) c.self.view_is)) c.clear.ensures.capacity c.clear-2.ensures.capacity,
    )
