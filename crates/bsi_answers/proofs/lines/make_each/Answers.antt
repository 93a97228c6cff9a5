use Rattle.std.proofs.Common.{ap, subst, ◌∙◌}
use Rattle.std.specs.List.{AllZip}
use Rattle.std.specs.Prelude.{IfOk}
use Rattle.csv.specs.Records.{fields_of}
use Rattle.rayon.proofs.ListFacts.{IfOk-then}
use Rattle.rayon.proofs.ToStd.{slice-AllZip}
use Rattle.bsi_answers.specs.AskLines.{IsAskLineBy}
use Rattle.bsi_answers.proofs.lines.make_each.Goals as goal

pub returns : goal.returns
returns g c =
    let ahead = c.args.ahead.now in
    let slice = ap (λ it. it.base.slice.now) c.map.ensures.base ∙ ap (λ it. it.slice.now) c.with_min_len.ensures.base ∙ c.par_iter.ensures in
    IfOk-then c.collect.result _ _ c.collect.ensures (λ v h.
    let chain = h.1 in
    let f = c.map.result.f in
    let each = slice-AllZip chain.0 ahead (chain.1 ∙ slice)
    (λ asked made. IfOk made (λ line. IsAskLineBy f.3.now (g.V.Vocabulary.words f.2.now) (g.V.Notation.number_texts f.2.now) f.1.now.schema f.1.now.rows (fields_of asked) line.items)) h.0 chain.2 in
    rw h.2 (subst (λ f. AllZip (λ asked made. IfOk made (λ line. IsAskLineBy f.3.now (g.V.Vocabulary.words f.2.now) (g.V.Notation.number_texts f.2.now) f.1.now.schema f.1.now.rows
    (fields_of asked) line.items)) ahead h.0) c.map.ensures.f each))
