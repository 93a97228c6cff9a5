use Rattle.bsi_origins.proofs.Tallying.{tallied_none, room_none}
use Rattle.bsi_origins.proofs.origins.Origins.new.Goals as goal

pub invariant_of-result : goal.invariant_of-result
invariant_of-result c = (
  tallied_none c.args.feeders c.new.result.items c.new-2.result.items c.requires c.new.ensures.items c.new-2.ensures.items,
  room_none c.args.feeders c.new.result.items _ _ c.new.ensures.items,
)
