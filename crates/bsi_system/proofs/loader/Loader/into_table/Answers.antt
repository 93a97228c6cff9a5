use Rattle.std.proofs.Common.{ap, length, subst, sym, ◌∙◌}
use Rattle.bsi_system.specs.LoaderSteps.{AlwaysHolds}
use Rattle.bsi_system.proofs.Progress.{always_holds}
use Rattle.bsi_system.proofs.loader.Loader.into_table.Goals as goal

pub returns-in-Ok-clause-always : goal.returns-in-Ok-clause-always
returns-in-Ok-clause-always g c = subst AlwaysHolds c.self.view_is (always_holds c.self.inside.readers.items c.self.inside.publisher c.self.invariant)

pub returns-in-Ok-clause-feeders : goal.returns-in-Ok-clause-feeders
returns-in-Ok-clause-feeders g c =
    ap (λ t. t.feeders) c.in-Ok.ensures.ok ∙ (sym c.self.invariant.many ∙ ap (λ s. length s.system.channels) c.self.view_is)

pub returns-in-Err-clause-always : goal.returns-in-Err-clause-always
returns-in-Err-clause-always g c = subst AlwaysHolds c.self.view_is (always_holds c.self.inside.readers.items c.self.inside.publisher c.self.invariant)
