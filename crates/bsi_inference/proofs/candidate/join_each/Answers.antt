use Rattle.std.proofs.Common.{◌<◌, get_or, length, arith, subst, ◌∙◌}
use Rattle.std.proofs.lemmas.List.{get_or_default}
use Rattle.bsi_inference.specs.Candidates.{IsJoined}
use Rattle.bsi_inference.specs.declared.candidate.Candidate.{Candidate}
use Rattle.bsi_inference.proofs.Steps.{alike_len, between_more, join_form}
use Rattle.bsi_inference.proofs.candidate.join_each.Goals as goal

pub join-requires : goal.join-requires
join-requires c =
    let others = c.args.others.now in
    let within : c.candidates.i < length c.args.others.now = omega (arith, alike_len c.args.candidates.now c.args.others.now c.requires) in
    join_form c.args.candidates.now c.candidates.candidates others c.candidates.i c.index-candidates-i.result c.index-others-i.result
    (λ d. c.candidates.invariant.rest c.candidates.i d (omega arith)) c.index-candidates-i.is within c.index-others-i.is c.requires

pub candidates-preserved : goal.candidates-preserved
candidates-preserved c =
    let others = c.args.others.now in
    let i = c.candidates.i in
    let there = c.index-others-i.result in
    let beside : c.candidates.i < length c.args.others.now = omega (arith, alike_len c.args.candidates.now c.args.others.now c.requires) in
    let within : c.candidates.i < length c.candidates.candidates = omega arith in
    between_more (λ k d old new. IsJoined old (get_or others k d) new) c.args.candidates.now c.candidates.candidates i c.index-candidates-i.result c.join.result
    c.candidates.invariant within c.index-candidates-i.is
    (λ d. subst (λ (o : Candidate). IsJoined c.index-candidates-i.result o c.join.result) (c.index-others-i.is ∙ get_or_default others i there d beside) c.join.ensures)
