use Rattle.std.proofs.Common.{arith, ◌<◌, length, subst, sym}
use Rattle.bsi_inference.specs.Candidates.{IsNext}
use Rattle.bsi_inference.proofs.Steps.{between_more}
use Rattle.bsi_inference.proofs.candidate.observe_each.Goals as goal

pub candidates-preserved : goal.candidates-preserved
candidates-preserved c =
    let within : c.candidates.i < length c.candidates.candidates = omega arith in
    between_more (λ k d old new. IsNext c.args.field.now old new) c.args.candidates.now c.candidates.candidates c.candidates.i c.index-candidates-i.result c.observe.new.self c.candidates.invariant within
    c.index-candidates-i.is (λ d. subst (λ old. IsNext c.args.field.now old c.observe.new.self) (sym c.index-candidates-i.is) c.observe.ensures)
