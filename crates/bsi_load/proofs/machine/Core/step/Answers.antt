use Rattle.std.proofs.Common.{ap, sym, ◌∙◌, [], ◌∷◌}
use Rattle.bsi_rows.specs.declared.event.Reply.TheVariants.{Answered}
use Rattle.bsi_rows.specs.Runs.{shown_after}
use Rattle.bsi_load.proofs.Changes.{answered}
use Rattle.bsi_load.proofs.machine.Core.step.Goals as goal

pub returns-in-Ask-clause-after : goal.returns-in-Ask-clause-after
returns-in-Ask-clause-after c =
    answered c.args.self.now c.in-Ask.query c.ask.result ∙ ap (λ e. shown_after c.args.self.now ((e, Answered c.ask.result) ∷ [])) (sym c.in-Ask.is)
