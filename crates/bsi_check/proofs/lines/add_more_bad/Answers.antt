use Rattle.std.proofs.Common.{◌≡◌, ◌-◌, ◌∷◌, [], arith, ap, subst, ◌∙◌}
use Rattle.std.specs.Prelude.{OnOk}
use Rattle.bsi_check.specs.Reasons.{max_reasons, more_why, one_line, AddsReasons}
use Rattle.bsi_check.proofs.OneLine.{more_stays}
use Rattle.bsi_check.proofs.lines.add_more_bad.Goals as goal

pub returns : goal.returns
returns c =
    let more = c.args.bad - max_reasons in
    let same : c.saturating_sub-more.result ≡ more = omega (arith, c.saturating_sub-more.ensures) in
    let text : c.as_str.result.now ≡ more_why more = c.as_str.ensures.value ∙ (c.in_ok-why.ensures.ok ∙ ap more_why same) in
    let line : one_line c.as_str.result.now ≡ more_why more = ap one_line text ∙ more_stays more (omega (arith, c.ranges.bad)) in
    subst (λ why. OnOk c.add_reason_line.result (AddsReasons c.args.path.now (why ∷ []) c.args.reasons.now.items c.add_reason_line.new.reasons.items)) line c.add_reason_line.ensures
