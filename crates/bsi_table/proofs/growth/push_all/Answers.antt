use Rattle.std.proofs.Common.{subst}
use Rattle.bsi_table.specs.Joined.{AreEnough}
use Rattle.bsi_table.proofs.growth.push_all.Goals as goal

pub push_all_reserved-requires-clause-feeders : goal.push_all_reserved-requires-clause-feeders
push_all_reserved-requires-clause-feeders c = subst (λ feeder. AreEnough c.args.origins.now.feeders feeder c.args.other_origins.now.feeders) c.in-None.is c.requires.feeders
