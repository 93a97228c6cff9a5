use Rattle.std.proofs.Common.{◌≡◌, ap, subst, ◌∙◌}
use Rattle.std.specs.List.{AllZip}
use Rattle.std.specs.Prelude.{IfOk}
use Rattle.rayon.proofs.ListFacts.{IfOk-then}
use Rattle.bsi_store.specs.Surveyed.{AreSurveyed}
use Rattle.bsi_store.proofs.surveying.survey_each.Goals as goal

pub returns : goal.returns
returns g c =
    let rem = g.S.Read.remaining in
    let same : c.map.result.f.1 ≡ c.args.options = ap (λ f. f.1) c.map.ensures.f in
    IfOk-then c.collect.result _ _ c.collect.ensures (λ v h.
    let chain = h.1 in
    let from = ap (λ it. it.base) c.map.ensures.base ∙ c.with_min_len.ensures.base in
    rw h.2 (subst (λ options. AllZip (λ _ survey. IfOk survey (AreSurveyed rem options.now 1)) c.args.files.items h.0) same
    (subst (λ files. AllZip (λ _ survey. IfOk survey (AreSurveyed rem c.map.result.f.1.now 1)) files h.0) (chain.1 ∙ rw from c.into_par_iter.ensures) chain.2)))
