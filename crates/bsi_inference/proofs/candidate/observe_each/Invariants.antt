use Rattle.bsi_inference.specs.Candidates.{IsNext}
use Rattle.bsi_inference.proofs.Steps.{AreBetween}
use Rattle.bsi_inference.proofs.candidate.observe_each.Given as goal

abbrev pub invariant-candidates : goal.invariant-candidates
invariant-candidates l = AreBetween (λ k d old new. IsNext l.field old new) l.initial.candidates l.candidates l.i
