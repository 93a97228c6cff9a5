use Rattle.std.proofs.Common.{subst}
use Rattle.bsi_system.specs.LoaderSteps.{AlwaysHolds}
use Rattle.bsi_system.proofs.Progress.{always_holds}
use Rattle.bsi_system.proofs.loader.Loader.counts.Goals as goal

pub returns-clause-always : goal.returns-clause-always
returns-clause-always g c = subst AlwaysHolds c.self.view_is (always_holds c.self.inside.readers.items c.self.inside.publisher c.self.invariant)
