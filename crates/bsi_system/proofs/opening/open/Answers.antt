use Rattle.bsi_system.proofs.Beginning.{own_feeders}
use Rattle.bsi_system.proofs.opening.open.Goals as goal

pub returns-in-Ok-make_analysts-clause-own : goal.returns-in-Ok-make_analysts-clause-own
returns-in-Ok-make_analysts-clause-own g c =
    own_feeders c.in-Ok.system.loader.system c.deref.result.now c.in-Ok.system.feeders.items c.in-Ok.ensures.feeders
