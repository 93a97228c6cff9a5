use Rattle.std.proofs.Common.{get_or}
use Rattle.bsi_inference.specs.Candidates.{IsJoined}
use Rattle.bsi_inference.proofs.Steps.{AreBetween}
use Rattle.bsi_inference.proofs.candidate.join_each.Given as goal

abbrev pub invariant-candidates : goal.invariant-candidates
invariant-candidates l = AreBetween (λ k d old new. IsJoined old (get_or l.others k d) new) l.initial.candidates l.candidates l.i
