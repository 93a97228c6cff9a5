use Rattle.std.proofs.Common.{◌≡◌, ◌-◌, ◌/◌, ◌∙◌, ap₂, ap, min}
use Rattle.bsi_columns.proofs.ExtremeDigits.{bound_past}
use Rattle.bsi_columns.proofs.decomposed.extremes.bound_of.Goals as goal

pub returns-in-Some-default-clause-past : goal.returns-in-Some-default-clause-past
returns-in-Some-default-clause-past c = λ d x low past first.
    let is : c.min.result ≡ min (c.in-Some-default.best / c.args.weight - c.args.above) (c.args.base - 1) = c.min.ensures ∙ ap₂ min c.saturating_sub.ensures (ap (λ b. b - 1) c.from.ensures) in
    rw c.in-Some-default.is-0 (bound_past c.args.extreme c.in-Some-default.best c.args.above c.args.base c.args.weight c.min.result d x c.requires.some is low past first)
