use Rattle.std.proofs.Common.{subst, sym}
use Rattle.bsi_system.specs.LoaderSteps.{IsLoader}
use Rattle.bsi_system.proofs.Progress.{always_holds}
use Rattle.bsi_system.proofs.loader.Loader.tell.Goals as goal

pub returns-clause-always : goal.returns-clause-always
returns-clause-always g c =
    let l = c.self.inside in
    always_holds l.readers.items c.tell.new.self (subst (IsLoader l.readers.items) (sym c.tell.ensures.same) c.self.invariant)
